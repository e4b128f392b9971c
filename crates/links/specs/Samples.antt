-- Document 01's samples of the link rules and of sheets, and one for each of 10, 11 and 12. The statements; their
-- proofs are in proofs/Samples.antt.
use Rattle.std.specs.Prelude.{◌≡◌, ℕ, List, [], ◌∷◌, ◌++◌, replicate}
use Rattle.primitives.specs.Outpoints.{outpoint}
use Rattle.links.specs.Verify.{summary, stopped, without_outpoints, verify_of}

-- a sheet with no coins; a sheet with the coin that its input's bytes name, a Register with no items; a transaction of
-- that input and an Open
abbrev pub no_coins : List ℕ
no_coins = 0x14 ∷ 0 ∷ 0 ∷ 0 ∷ []

abbrev pub zeros : ℕ → List ℕ
zeros n = replicate n 0

abbrev pub registered : List ℕ → List ℕ
registered input = 0x14 ∷ 1 ∷ 0 ∷ 0 ∷ (input ++ zeros 10 ++ (6 ∷ 0 ∷ []))

abbrev pub opens : List ℕ → ℕ → List ℕ
opens input value = 0x10 ∷ 1 ∷ 0 ∷ 0x40 ∷ (input ++ zeros 7 ++ (value ∷ 0 ∷ 0 ∷ 2 ∷ 0 ∷ []))

pub record Samples : Type 0 where
  -- "`10 00 00 00` and `14 00 00 00` give exactly `links inputs=0 linked=0 names=0`"
  pub empty : verify_of (0x10 ∷ 0 ∷ 0 ∷ 0 ∷ []) no_coins ≡ without_outpoints (summary 0 0 0)
  -- "For `10 00 00 40`, ten zero bytes, `04 00`, with the same coins: `refused 26 at 0`"
  pub unpaired_reveal : verify_of (0x10 ∷ 0 ∷ 0 ∷ 0x40 ∷ (zeros 10 ++ (4 ∷ 0 ∷ []))) no_coins ≡ without_outpoints (stopped 26 (0 ∷ 4 ∷ []) 0)
  -- ".. Claim passes"
  pub unpaired_claim : verify_of (0x10 ∷ 0 ∷ 0 ∷ 0x40 ∷ (zeros 10 ++ (1 ∷ 0 ∷ []))) no_coins ≡ without_outpoints (summary 0 0 0)
  -- "Register to Open with unequal values: 22, with equal value and address: 14"
  pub unequal_values : verify_of (opens (zeros 36) 1) (registered (zeros 36)) ≡ without_outpoints (stopped 22 (0 ∷ []) 0)
  pub equal_values : verify_of (opens (zeros 36) 0) (registered (zeros 36)) ≡ without_outpoints (stopped 14 (0 ∷ 6 ∷ 2 ∷ []) 0)
  -- "First the outpoint (12)", with both outpoints
  pub other_outpoint : verify_of (opens (zeros 36) 0) (registered (7 ∷ zeros 35)) ≡ record { said = stopped 12 (0 ∷ []) 0; expected = outpoint (zeros 32) 0; actual = outpoint (7 ∷ zeros 31) 0 }
  -- "Coinbase (first input null): 10. Counts: 11"
  pub null_input : verify_of (opens (zeros 32 ++ (255 ∷ 255 ∷ 255 ∷ 255 ∷ [])) 0) no_coins ≡ without_outpoints (stopped 10 [] 0)
  pub no_coin : verify_of (opens (zeros 36) 0) no_coins ≡ without_outpoints (stopped 11 (1 ∷ 0 ∷ []) 0)
  -- a sheet of the other side; outputs on a coin sheet; a missing file; a byte that is left over
  pub other_side : verify_of no_coins [] ≡ without_outpoints (stopped 27 (0 ∷ 0 ∷ []) 0)
  pub outputs_on_coins : verify_of (0x10 ∷ 0 ∷ 0 ∷ 0 ∷ []) (0x14 ∷ 0 ∷ 0 ∷ 0x40 ∷ []) ≡ without_outpoints (stopped 27 (1 ∷ 2 ∷ []) 1)
  pub no_file : verify_of (0x10 ∷ 0 ∷ 0 ∷ 0 ∷ []) [] ≡ without_outpoints (stopped 1 (0 ∷ 4 ∷ []) 1)
  pub byte_over : verify_of (0x10 ∷ 0 ∷ 0 ∷ 0 ∷ 9 ∷ []) [] ≡ without_outpoints (stopped 3 (1 ∷ []) 0)
