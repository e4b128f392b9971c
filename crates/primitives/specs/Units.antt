-- Sums and differences of amounts, as the Rust's `checked_add` and `checked_sub` have them (document 01, module 3:
-- "Source decides on behaviour").
use Rattle.std.specs.Prelude.{◌+◌, ◌-◌, ◌^◌, ltb, Result, Ok, Err}
use Rattle.words.specs.Buffers.{pick}
use Rattle.primitives.specs.declared.Dollarydoos.{Dollarydoos}
use Rattle.primitives.specs.declared.ArithmeticError.{ArithmeticError}

-- an amount is a number below 2^64: a larger sum is an overflow
abbrev pub sum_of : Dollarydoos → Dollarydoos → Result Dollarydoos ArithmeticError
sum_of a b = pick (ltb (a.0 + b.0) (2 ^ 64)) (Ok (record { 0 = a.0 + b.0 })) (Err ArithmeticError.Overflow)

-- and a difference below zero an underflow
abbrev pub difference_of : Dollarydoos → Dollarydoos → Result Dollarydoos ArithmeticError
difference_of a b = pick (ltb a.0 b.0) (Err ArithmeticError.Underflow) (Ok (record { 0 = a.0 - b.0 }))
