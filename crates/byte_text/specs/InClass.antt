-- Classes of bytes.
use Rattle.std.specs.Prelude.{ℕ, Bool, ◌==◌}
use Rattle.std.specs.Char.{is_ascii_digit, is_ascii_alphanumeric}
use Rattle.byte_text.specs.declared.classes.Class.{Class}
use Rattle.byte_text.specs.declared.classes.Class.TheVariants.{White, Digit, Alphanumeric, Byte}
use Rattle.byte_text.specs.Classes.{is_white}

-- whether a byte is of a class
abbrev pub in_class : Class → ℕ → Bool
in_class White = is_white
in_class Digit = is_ascii_digit
in_class Alphanumeric = is_ascii_alphanumeric
in_class (Byte own) = λ byte. byte == own
