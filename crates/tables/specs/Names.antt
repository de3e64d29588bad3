-- The names that a semaphore table holds.
use Rattle.std.specs.Prelude.{ℕ, List}
use Rattle.tables.specs.declared.semaphores.Semaphores.{Semaphores}

abbrev pub names_of : Semaphores → List ℕ
names_of t = t.names
