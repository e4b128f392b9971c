-- The samples of specs/Samples.antt: each by computing the rules.
use mathlib.Core.Path.{refl}
use Rattle.words.specs.Words.{le, spell}
use Rattle.words.specs.Sameness.{same}
use Rattle.refusal.specs.Outcome.{many_at}
use Rattle.encoding.specs.Wire.{inside, slice_at, fixed_at, canonical, compact_at, most, compact_most, finish_at}
use Rattle.primitives.specs.Outpoints.{same_outpoint, is_null}
use Rattle.covenants.specs.Covenant as covenant
use Rattle.sheets.specs.Sheet.{seen_at, parts_from, items_from, head_fields, sheet_head_at, input_at, place_body_at, place_at, coin_at, sheet_at, ledger_at, transaction_at, coins_at, transaction_of, coins_of, pair_of}
use Rattle.checks.specs.Checks.{agree, name_and_start}
use Rattle.links.specs.Rules.{owned_rule, rule, unpaired, links_from, coinbase, links_of}
use Rattle.links.specs.Verify.{verify_of}
use Rattle.links.specs.Samples.{Samples}

pub samples : Samples
unfolding le same many_at inside slice_at fixed_at canonical compact_at most compact_most finish_at same_outpoint is_null covenant.allowed covenant.item_at covenant.head_at covenant.body_at covenant.opening covenant.covenant_at spell seen_at parts_from items_from head_fields sheet_head_at input_at place_body_at place_at coin_at sheet_at ledger_at transaction_at coins_at transaction_of coins_of pair_of agree name_and_start owned_rule rule unpaired links_from coinbase links_of verify_of
samples =
    record {
      empty = refl;
      unpaired_reveal = refl;
      unpaired_claim = refl;
      unequal_values = refl;
      equal_values = refl;
      other_outpoint = refl;
      null_input = refl;
      no_coin = refl;
      other_side = refl;
      outputs_on_coins = refl;
      no_file = refl;
      byte_over = refl;
    }
