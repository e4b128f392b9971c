-- Document 01's sample table: "The P lines are proved from the rules as one table under one theorem". The rules are the
-- definitions that the contracts of the readers and writers cite; the theorem is `sample-table` in proofs/Table.antt.
use Rattle.std.specs.Prelude.{◌≡◌, ℕ, List, [], ◌∷◌, ◌++◌, replicate}
use Rattle.refusal.specs.Outcome.{ok, err}
use Rattle.encoding.specs.Wire.{compact, compact_at}
use Rattle.covenants.specs.Covenant.{covenant_at, whole_covenant}
use Rattle.name_state.specs.Paper.{null_state}
use Rattle.name_state_codec.specs.Read.{read_state}

pub record SampleTable : Type 0 where
  -- "252 is `fc`; 253 is `fd fd 00`; `fd fc 00` is 4"
  pub size_252 : compact 252 ≡ 0xfc ∷ []
  pub size_253 : compact 253 ≡ 0xfd ∷ 0xfd ∷ 0x00 ∷ []
  pub size_252_read : compact_at (0xfc ∷ []) 0 ≡ ok 252 1
  pub size_253_read : compact_at (0xfd ∷ 0xfd ∷ 0x00 ∷ []) 0 ≡ ok 253 3
  pub size_too_long : compact_at (0xfd ∷ 0xfc ∷ 0x00 ∷ []) 0 ≡ err 4 (16 ∷ []) 3
  -- "Covenant `00 00` is accepted; `00 00 00` is 3 {1}; `03` is 1 {1, 1}; `03 01 02 aa` is 1 {3, 1}"
  pub covenant_accepted : whole_covenant (0x00 ∷ 0x00 ∷ []) ≡ ok (record { kind = 0; items = []; used = 2 }) 2
  pub covenant_trailing : whole_covenant (0x00 ∷ 0x00 ∷ 0x00 ∷ []) ≡ err 3 (1 ∷ []) 2
  pub covenant_no_count : whole_covenant (0x03 ∷ []) ≡ err 1 (1 ∷ 1 ∷ []) 1
  pub covenant_cut_item : whole_covenant (0x03 ∷ 0x01 ∷ 0x02 ∷ 0xaa ∷ []) ≡ err 1 (3 ∷ 1 ∷ []) 3
  -- "`00 fd e9 03` is 2 {1001, 1000}; `00 fd e8 03` under allowance 2 is 5 {4, 2}"
  pub covenant_many : whole_covenant (0x00 ∷ 0xfd ∷ 0xe9 ∷ 0x03 ∷ []) ≡ err 2 (1001 ∷ 1000 ∷ []) 4
  pub covenant_allowance : covenant_at 2 (0x00 ∷ 0xfd ∷ 0xe8 ∷ 0x03 ∷ []) 0 ≡ err 5 (4 ∷ 2 ∷ []) 4
  -- "State: 13 zeros accepted; `01 41` and 12 zeros accepted under any key"
  pub state_zeros : (key : List ℕ) → read_state key (replicate 13 0) ≡ ok (null_state key []) 13
  pub state_name : (key : List ℕ) → read_state key (0x01 ∷ 0x41 ∷ replicate 12 0) ≡ ok (null_state key (0x41 ∷ [])) 14
  -- "Bitmap `02 00` then `00`, all else zero: 8"
  pub state_bitmap : (key : List ℕ) → read_state key (replicate 11 0 ++ (0x02 ∷ 0x00 ∷ 0x00 ∷ [])) ≡ err 8 [] 14
