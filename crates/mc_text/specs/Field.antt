-- The words of a line that carry a value. By memcached's protocol.txt, with the limits of this project's profile.
use Rattle.std.specs.Prelude.{
  ℕ,
  ◌+◌,
  ◌^◌,
  ℤ,
  pos,
  neg_ℤ,
  Bool,
  true,
  false,
  not,
  ◌&&◌,
  List,
  [],
  ◌∷◌,
  length,
  Option,
  None,
  Result,
  Ok,
  Err,
  option_map,
  codes,
  nat_lt,
  nat_le,
  ◌==◌,
  if◌then◌else◌,
}
use Rattle.std.specs.List.{list_all}
use Rattle.std.specs.Option.{ok_or}
use Rattle.std.specs.Str.{bytes_eq}
use Rattle.byte_text.specs.Numerals.{is_decimal, number_below}
use Rattle.mc_text.specs.declared.command.LineFault.{LineFault}
use Rattle.mc_text.specs.declared.command.LineFault.TheVariants.{Unknown, Format, Delta}

-- what a word or a line says, or its fault
abbrev pub Said : Type 0 → Type 0
Said A = Result A LineFault

-- the first fault decides
infixl 10 ◌>>=◌
abbrev pub ◌>>=◌ : {A B : Type 0} → Said A → (A → Said B) → Said B
Ok value >>= next = next value
Err fault >>= next = Err fault

-- a key has at most 250 bytes, none of them a space, a control character or 127
abbrev pub is_key : List ℕ → Bool
is_key word = nat_le (length word) 250 && list_all (λ byte. nat_lt 32 byte && not (byte == 127)) word

-- an expiry time: a decimal number with an optional `-`, whose value has at most 32 bits with its sign
abbrev pub expiry_in : List ℕ → Option ℤ
expiry_in [] = None
expiry_in (byte ∷ more) =
    if byte == 45 then option_map (λ n. neg_ℤ (pos n)) (number_below (2 ^ 31 + 1) more)
    else option_map pos (number_below (2 ^ 31) (byte ∷ more))

unfoldable pub key_of : List ℕ → Said (List ℕ)
key_of word = if is_key word then Ok word else Err Format

-- flags, the number of bytes of a block, and a moment
unfoldable pub number32_of : List ℕ → Said ℕ
number32_of word = ok_or (number_below (2 ^ 32) word) Format

unfoldable pub exptime_of : List ℕ → Said ℤ
exptime_of word = ok_or (expiry_in word) Format

unfoldable pub unique_of : List ℕ → Said ℕ
unique_of word = ok_or (number_below (2 ^ 64) word) Format

unfoldable pub delta_of : List ℕ → Said ℕ
delta_of word = ok_or (number_below (2 ^ 64) word) Delta

-- how much is to be logged: any decimal number, which isn't kept
unfoldable pub level_of : List ℕ → Said (Unit {0})
level_of word = if is_decimal word then Ok tt else Err Format

-- the keys of a line, at least one
unfoldable pub keys_of : List (List ℕ) → Said (List (List ℕ))
keys_of [] = Err Unknown
keys_of (key ∷ more) = if list_all is_key (key ∷ more) then Ok (key ∷ more) else Err Format

-- whether the words behind a line's values ask for no reply: there is none, or `noreply` alone
unfoldable pub quiet_of : List (List ℕ) → Said Bool
quiet_of [] = Ok false
quiet_of (word ∷ []) = if bytes_eq word (codes "noreply") then Ok true else Err Unknown
quiet_of (_ ∷ _ ∷ _) = Err Unknown
