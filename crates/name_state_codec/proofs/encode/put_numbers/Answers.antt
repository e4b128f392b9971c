use native.Mathlib.Omega.{arith}
use mathlib.Core.Path.{refl}
use Prim.Native.Nat.{◌+◌}
use mathlib.Core.List.{◌++◌}
use lib.ListN.{length-append}
use Rattle.words.specs.Words.{bytes}
use Rattle.words.proofs.Laid.{both, laid-there}
use Rattle.words.proofs.Le.{length-bytes}
use Rattle.name_state_codec.proofs.encode.put_numbers.Goals as goal

pub returns : goal.returns
returns c =
    let a = c.args in
    let s = length-bytes 4 a.numbers.height.0 in
    let t = length-bytes 4 a.numbers.renewal.0 in
    let u = length-bytes 2 a.numbers.bits in
    let A = laid-there a.d.now a.at (bytes 4 a.numbers.height.0) 4 s (omega (arith, c.requires)) refl (rw c.from.ensures at c.put_le.ensures.1) in
    let B = laid-there c.put_le.new.d (a.at + 4) (bytes 4 a.numbers.renewal.0) 4 {end = a.at + 8} t (omega (arith, c.requires, c.put_le.auto.d)) (omega arith) (rw c.from-2.ensures at c.put_le-2.ensures.1) in
    let C = laid-there c.put_le-2.new.d (a.at + 8) (bytes 2 a.numbers.bits) 2 {end = a.at + 10} u (omega (arith, c.requires, c.put_le.auto.d, c.put_le-2.auto.d)) (omega arith) (rw c.from-3.ensures at c.put_le-3.ensures.1) in
    let l₁ = length-append (bytes 4 a.numbers.height.0) (bytes 4 a.numbers.renewal.0) in
    let l₂ = length-append (bytes 4 a.numbers.height.0 ++ bytes 4 a.numbers.renewal.0) (bytes 2 a.numbers.bits) in
    (both (omega (arith, l₁, l₂, s, t, u, c.requires)) (both (omega (arith, l₁, s, t, c.requires)) A B) C).holds
