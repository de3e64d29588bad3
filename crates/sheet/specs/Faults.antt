-- What `{}` prints of a fault.
use Rattle.std.specs.Prelude.{ℕ, List, codes}
use Rattle.sheet.specs.declared.fault.Fault.{Fault}
use Rattle.sheet.specs.declared.fault.Fault.TheVariants.{Memory, Unclosed, Behind}

abbrev pub words_of : Fault → List ℕ
words_of Memory = codes "there is not enough memory"
words_of (Unclosed line) = codes "a quoted field is opened here and never closed; the rest of the table is not read"
words_of (Behind line) =
    codes "something stands between a closing quote and the next comma; the rest of the table is not read"
