-- A test that antt computes over a table, one entry after the other, and what it says of each.
use mathlib.Core.Bool.{Bool, true, false}
use lib.Dec.{T}

abbrev pub both : Bool → Bool → Bool
both true b = b
both false b = false

pub both_left : (a b : Bool) → T (both a b) → T a
both_left true b t = tt
both_left false b t = t

pub both_right : (a b : Bool) → T (both a b) → T b
both_right true b t = t
both_right false b t = absurd t
