-- Sums and differences of amounts as flat structs: an amount, or 1 for an overflow and 2 for an underflow. "Unused
-- parts of an answer are zeros".
use Rattle.std.specs.Prelude.{Result, Ok, Err}
use Rattle.primitives.specs.declared.Dollarydoos.{Dollarydoos}
use Rattle.primitives.specs.declared.ArithmeticError.{ArithmeticError}
use Rattle.capi.specs.declared.amounts.AmountAnswer.{AmountAnswer}

abbrev pub amount_flat : Result Dollarydoos ArithmeticError → AmountAnswer
amount_flat (Ok amount) = record { outcome = 0; value = amount.0 }
amount_flat (Err ArithmeticError.Overflow) = record { outcome = 1; value = 0 }
amount_flat (Err ArithmeticError.Underflow) = record { outcome = 2; value = 0 }
