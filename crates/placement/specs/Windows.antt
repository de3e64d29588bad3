-- A window's layout, and what setting one up answers.
use Rattle.std.specs.Prelude.{ℕ, ◌+◌, ◌≤◌, cond, ◌&&◌, Ok, Err, Result, nat_le}
use Rattle.std.proofs.Common.{arith}
use Rattle.volume.specs.Layouts.{Layout, Lawful}
use Rattle.placement.specs.declared.refusal.Refusal.{Refusal}
use Rattle.placement.specs.declared.refusal.Refusal.TheVariants as refusals

abbrev pub window : ℕ → ℕ → ℕ → Layout
window offset length total = record { count = length; total = total; place = λ n. offset + n }

abbrev pub window_check : ℕ → ℕ → ℕ → Result (Unit {0}) Refusal
window_check offset length total =
    cond (nat_le offset 16777215 && nat_le length 16777215 && nat_le total 16777215 && nat_le (offset + length) total)
    (Ok tt)
    (Err refusals.Window)

pub window_lawful : (offset length total : ℕ) → offset + length ≤ total → Lawful (window offset length total)
window_lawful offset length total fits =
    record { few = omega arith; within = λ n h. omega arith; apart = λ i j hi hj e. omega arith }
