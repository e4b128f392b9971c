-- The theorem of specs/Table.antt: each line by computing the rules.
use mathlib.Core.Path.{refl}
use Rattle.words.specs.Words.{le, bytes}
use Rattle.words.specs.Sameness.{same}
use Rattle.refusal.specs.Outcome.{many_at}
use Rattle.encoding.specs.Wire.{remaining_at, inside, slice_at, bytes_at, fixed_at, canonical, compact, compact_at, most, compact_most, finish_at}
use Rattle.primitives.specs.Outpoints.{same_outpoint, is_null}
use Rattle.covenants.specs.Covenant.{allowed, item_at, head_at, opening, body_at, covenant_at, whole_covenant}
use Rattle.name_state.specs.State.{null, bitmap, binding}
use Rattle.name_state_codec.specs.Written.{texts_bytes, numbers_bytes, held_bytes, times_bytes, record_with, state_bytes}
use Rattle.name_state_codec.specs.Read.{up_to, text_at, texts_at, numbers_at, owner_at, amount_at, amounts_at, held_at, times_at, gathered, optional_at, fields_at, judged_state, read_state}
use Rattle.samples.specs.Table.{SampleTable}

pub sample-table : SampleTable
unfolding le bytes remaining_at inside slice_at bytes_at fixed_at canonical compact compact_at most compact_most finish_at many_at allowed item_at head_at opening body_at covenant_at whole_covenant same same_outpoint is_null null binding bitmap texts_bytes numbers_bytes held_bytes times_bytes record_with state_bytes up_to text_at texts_at numbers_at owner_at amount_at amounts_at held_at times_at gathered optional_at fields_at judged_state read_state
sample-table =
    record {
      size_252 = refl;
      size_253 = refl;
      size_252_read = refl;
      size_253_read = refl;
      size_too_long = refl;
      covenant_accepted = refl;
      covenant_trailing = refl;
      covenant_no_count = refl;
      covenant_cut_item = refl;
      covenant_many = refl;
      covenant_allowance = refl;
      state_zeros = λ key. refl;
      state_name = λ key. refl;
      state_bitmap = λ key. refl;
    }
