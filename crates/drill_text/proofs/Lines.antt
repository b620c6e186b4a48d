-- How the lines of a drill are read.
use Rattle.std.proofs.Common.{
  ◌≡◌,
  ℕ,
  zero,
  suc,
  ◌+◌,
  ◌-◌,
  ◌%◌,
  ◌/◌,
  ◌^◌,
  ◌<◌,
  ◌≤◌,
  ◌&&◌,
  Bool,
  true,
  false,
  List,
  [],
  ◌∷◌,
  ◌++◌,
  length,
  take,
  Ok,
  Some,
  codes,
  inl,
  refl,
  sym,
  ap,
  ◌∙◌,
  subst,
  append_assoc,
  arith,
}
use Rattle.std.specs.Prelude.{Contains, decimal, nat_lt, pos, slice_index}
use Rattle.std.specs.List.{AllByRecursion, list_all}
use Rattle.std.proofs.Math.Seq.{get_or-append_seam}
use Rattle.std.proofs.lemmas.Bool.{and_parts, ltb-true}
use Rattle.std.proofs.lemmas.Fmt.{decimal_by_steps, decimal_digit, decimal_is_IsNumeral, decimal_nonempty}
use Rattle.std.proofs.lemmas.List.{length-append, take_at}
use Rattle.byte_text.specs.Words.{words}
use Rattle.byte_text.specs.Numerals.{number_below}
use Rattle.byte_text.proofs.CutLaws.{more_lacks}
use Rattle.byte_text.proofs.NumeralLaws.{below_limit}
use Rattle.byte_text.proofs.WordCuts.{words_cut, words_whole}
use Rattle.mc_text.specs.declared.command.How.TheVariants.{Add}
use Rattle.mc_text.specs.Request.{Request, WholeCommand, Store, Count}
use Rattle.mc_text.specs.Field.{key_of, number32_of, exptime_of, delta_of, quiet_of}
use Rattle.mc_text.specs.Line.{
  Header,
  Line,
  Storage,
  Whole,
  count_of,
  header_of,
  line_of,
  row_of,
  said_by,
  said_in,
  storage_of,
  without_return,
  words_of_line,
}
use Rattle.mc_text.specs.Begins.{Asks, Begins, storing, value_limit}
use Rattle.drill_text.specs.Drill.{key_name}

-- ---- bytes above another

-- each byte of a text is above another
abbrev pub Above : ℕ → List ℕ → Type 0
Above low text = AllByRecursion (λ byte. low < byte) text

above_lacks : (low byte : ℕ) (text : List ℕ) → byte ≤ low → Above low text → ¬ (Contains text byte)
above_lacks low byte [] few above = λ has. absurd (omega (arith, has.1))
above_lacks low byte (first ∷ more) few above =
    more_lacks byte first more (λ is. omega (arith, is, above.0, few)) (above_lacks low byte more few above.1)

above_append : (low : ℕ) (front behind : List ℕ) → Above low front → Above low behind → Above low (front ++ behind)
above_append low [] behind a b = b
above_append low (first ∷ more) behind a b = (a.0, above_append low more behind a.1 b)

above_weaker : (low high : ℕ) (text : List ℕ) → low ≤ high → Above high text → Above low text
above_weaker low high [] less above = tt
above_weaker low high (first ∷ more) less above = (omega (arith, less, above.0), above_weaker low high more less above.1)

-- by computing it
above_by : (low : ℕ) (text : List ℕ) → list_all (λ byte. nat_lt low byte) text ≡ true → Above low text
above_by low [] is = tt
above_by low (first ∷ more) is =
    let parts = and_parts (nat_lt low first) (list_all (λ byte. nat_lt low byte) more) is in
    (ltb-true low first parts.0, above_by low more parts.1)

-- the digits of a number
above_decimal : (n : ℕ) → n < 2 ^ 64 → Above 47 (decimal n)
above_decimal n small = decimal_by_steps (λ _ digits. Above 47 digits) one more n small
  where
    one : (n : ℕ) → n < 10 → Above 47 ((48 + n) ∷ [])
    one n few = (omega arith, tt)

    more : (n : ℕ) (digits : List ℕ) → 10 ≤ n → Above 47 digits → Above 47 (digits ++ ((48 + n % 10) ∷ []))
    more n digits long above = above_append 47 digits ((48 + n % 10) ∷ []) above (omega arith, tt)

above_name : (key : ℕ) → key < 8 → Above 47 (key_name key)
above_name key small = (omega arith, above_decimal key (omega (arith, small)))

-- ---- a line with its end

return_cut : (front : List ℕ) → without_return (front ++ 13 ∷ []) ≡ front
return_cut front =
    let size : length (front ++ 13 ∷ []) - 1 ≡ length front = omega (arith, length-append front (13 ∷ [])) in
    let last : slice_index (front ++ 13 ∷ []) (length front) ≡ 13 = get_or-append_seam front 13 [] 0 in
    rw (size, last) (take_at front (13 ∷ []) (length front) refl)

-- a line that is a command by itself
pub line_begins : (front more : List ℕ) (request : Request) → Above 31 front → line_of (words front) ≡ Whole request
    → Begins ((front ++ 13 ∷ 10 ∷ []) ++ more) (record { request = request; spelling = front ++ 13 ∷ 10 ∷ [] })
    (length (front ++ 13 ∷ 10 ∷ []))
line_begins front more request above says = record {
  content = front ++ 13 ∷ [];
  behind = more;
  more = 0;
  cut = record {
    parts = append_assoc front (13 ∷ 10 ∷ []) more ∙ sym (append_assoc front (13 ∷ []) (10 ∷ more));
    first =
        above_lacks 10 10 (front ++ 13 ∷ []) (omega arith)
        (above_append 10 front (13 ∷ []) (above_weaker 10 31 front (omega arith) above) (omega arith, tt));
  };
  asks = subst (λ line. Asks line more request 0) (sym (ap (λ text. line_of (words text)) (return_cut front) ∙ says)) (refl, refl);
  count_is = omega (arith, length-append front (13 ∷ 10 ∷ []), length-append front (13 ∷ []));
  spelling_is = sym (take_at (front ++ 13 ∷ 10 ∷ []) more (length (front ++ 13 ∷ 10 ∷ [])) refl);
}

-- a storage line for a block of one byte, and the block
pub block_begins : (front more : List ℕ) (header : Header) (byte : ℕ) → Above 31 front → line_of (words front) ≡ Storage header
    → header.bytes ≡ 1
    → Begins ((front ++ 13 ∷ 10 ∷ byte ∷ 13 ∷ 10 ∷ []) ++ more)
    (record { request = Store (storing header (byte ∷ [])); spelling = front ++ 13 ∷ 10 ∷ byte ∷ 13 ∷ 10 ∷ [] })
    (length (front ++ 13 ∷ 10 ∷ byte ∷ 13 ∷ 10 ∷ []))
block_begins front more header byte above says one = record {
  content = front ++ 13 ∷ [];
  behind = byte ∷ 13 ∷ 10 ∷ more;
  more = header.bytes + 2;
  cut = record {
    parts =
        append_assoc front (13 ∷ 10 ∷ byte ∷ 13 ∷ 10 ∷ []) more ∙ sym (append_assoc front (13 ∷ []) (10 ∷ byte ∷ 13 ∷ 10 ∷ more));
    first =
        above_lacks 10 10 (front ++ 13 ∷ []) (omega arith)
        (above_append 10 front (13 ∷ []) (above_weaker 10 31 front (omega arith) above) (omega arith, tt));
  };
  asks =
      subst (λ line. Asks line (byte ∷ 13 ∷ 10 ∷ more) (Store (storing header (byte ∷ []))) (header.bytes + 2))
      (sym (ap (λ text. line_of (words text)) (return_cut front) ∙ says))
      (inl (byte ∷ [], record { after = more; behind_is = refl; length_is = sym one }, rw one refl, refl));
  count_is =
      omega (arith, one, length-append front (13 ∷ 10 ∷ byte ∷ 13 ∷ 10 ∷ []), length-append front (13 ∷ []));
  spelling_is =
      sym (take_at (front ++ 13 ∷ 10 ∷ byte ∷ 13 ∷ 10 ∷ []) more (length (front ++ 13 ∷ 10 ∷ byte ∷ 13 ∷ 10 ∷ [])) refl);
}

-- ---- the keys, one by one

pub by_key : (P : ℕ → Type 0) → P 0 → P 1 → P 2 → P 3 → P 4 → P 5 → P 6 → P 7 → (key : ℕ) → key < 8 → P key
by_key P a b c d e f g h zero small = a
by_key P a b c d e f g h (suc zero) small = b
by_key P a b c d e f g h (suc (suc zero)) small = c
by_key P a b c d e f g h (suc (suc (suc zero))) small = d
by_key P a b c d e f g h (suc (suc (suc (suc zero)))) small = e
by_key P a b c d e f g h (suc (suc (suc (suc (suc zero))))) small = f
by_key P a b c d e f g h (suc (suc (suc (suc (suc (suc zero)))))) small = g
by_key P a b c d e f g h (suc (suc (suc (suc (suc (suc (suc zero))))))) small = h
by_key P a b c d e f g h (suc (suc (suc (suc (suc (suc (suc (suc n)))))))) small = absurd (omega (arith, small))

-- the name of a key, byte by byte
abbrev pub short_name : ℕ → List ℕ
short_name key = 107 ∷ (48 + key) ∷ []

pub name_is : (key : ℕ) → key < 8 → key_name key ≡ short_name key
name_is key small = ap (λ (digits : List ℕ). 107 ∷ digits) (decimal_digit key (omega (arith, small)))

short_is_key : (key : ℕ) → key < 8 → key_of (short_name key) ≡ Ok (short_name key)
unfolding key_of
short_is_key = by_key (λ key. key_of (short_name key) ≡ Ok (short_name key)) refl refl refl refl refl refl refl refl

name_is_key : (key : ℕ) → key < 8 → key_of (key_name key) ≡ Ok (key_name key)
name_is_key key small =
    subst (λ (name : List ℕ). key_of name ≡ Ok name) (sym (name_is key small)) (short_is_key key small)

-- ---- the two lines

-- the line of an opening, and what it announces
abbrev line_for : List ℕ → List ℕ
line_for name = codes "add " ++ (name ++ codes " 0 0 1 noreply")

abbrev header_for : List ℕ → Header
header_for name = record { how = Add; key = name; flags = 0; exptime = pos 0; bytes = 1; unique = 0; quiet = true }

abbrev pub opening_header : ℕ → Header
opening_header key = header_for (key_name key)

abbrev pub opening_front : ℕ → List ℕ
opening_front key = line_for (key_name key)

short_says : (key : ℕ) → key < 8 → line_of (words (line_for (short_name key))) ≡ Storage (header_for (short_name key))
unfolding said_by row_of said_in storage_of header_of key_of number32_of exptime_of quiet_of number_below
short_says =
    by_key (λ key. line_of (words (line_for (short_name key))) ≡ Storage (header_for (short_name key))) refl refl refl refl refl refl
    refl refl

pub opening_says : (key : ℕ) → key < 8 → line_of (words (opening_front key)) ≡ Storage (opening_header key)
opening_says key small =
    subst (λ (name : List ℕ). line_of (words (line_for name)) ≡ Storage (header_for name)) (sym (name_is key small))
    (short_says key small)

pub opening_above : (key : ℕ) → key < 8 → Above 31 (opening_front key)
opening_above key small =
    above_append 31 (codes "add ") (key_name key ++ codes " 0 0 1 noreply") (above_by 31 (codes "add ") refl)
    (above_append 31 (key_name key) (codes " 0 0 1 noreply") (above_weaker 31 47 (key_name key) (omega arith) (above_name key small))
    (above_by 31 (codes " 0 0 1 noreply") refl))

abbrev pub addition_front : ℕ → ℕ → List ℕ
addition_front key delta = codes "incr " ++ (key_name key ++ (codes " " ++ (decimal delta ++ codes " noreply")))

delta_is : (delta : ℕ) → delta < 2 ^ 64 → delta_of (decimal delta) ≡ Ok delta
unfolding delta_of
delta_is delta small =
    let numeral = decimal_is_IsNumeral delta small in
    rw (below_limit (2 ^ 64) delta (decimal delta) numeral.0 numeral.1 small) refl

addition_words : (key delta : ℕ) → key < 8 → delta < 2 ^ 64
    → words (addition_front key delta) ≡ codes "incr" ∷ key_name key ∷ decimal delta ∷ codes "noreply" ∷ []
addition_words key delta small few =
    let name = above_weaker 32 47 (key_name key) (omega arith) (above_name key small) in
    let digits = above_weaker 32 47 (decimal delta) (omega arith) (above_decimal delta few) in
    words_cut (addition_front key delta) (codes "incr") (key_name key ++ 32 ∷ (decimal delta ++ 32 ∷ codes "noreply"))
    (record { parts = refl; first = above_lacks 32 32 (codes "incr") (omega arith) (above_by 32 (codes "incr") refl) }) (omega arith)
    ∙ ap (λ rest. codes "incr" ∷ rest)
    (words_cut (key_name key ++ 32 ∷ (decimal delta ++ 32 ∷ codes "noreply")) (key_name key) (decimal delta ++ 32 ∷ codes "noreply")
    (record { parts = refl; first = above_lacks 32 32 (key_name key) (omega arith) name }) (omega arith)
    ∙ ap (λ rest. key_name key ∷ rest)
    (words_cut (decimal delta ++ 32 ∷ codes "noreply") (decimal delta) (codes "noreply")
    (record { parts = refl; first = above_lacks 32 32 (decimal delta) (omega arith) digits }) (decimal_nonempty delta few)
    ∙ ap (λ rest. decimal delta ∷ rest)
    (words_whole (codes "noreply") (above_lacks 32 32 (codes "noreply") (omega arith) (above_by 32 (codes "noreply") refl)) (omega arith))))

addition_said : (key delta : ℕ) → key < 8 → delta < 2 ^ 64
    → line_of (codes "incr" ∷ key_name key ∷ decimal delta ∷ codes "noreply" ∷ []) ≡ Whole (Count true (key_name key) delta true)
unfolding said_by row_of said_in count_of quiet_of
addition_said key delta small few = rw (name_is_key key small, delta_is delta few) refl

pub addition_says : (key delta : ℕ) → key < 8 → delta < 2 ^ 64
    → line_of (words (addition_front key delta)) ≡ Whole (Count true (key_name key) delta true)
addition_says key delta small few = ap line_of (addition_words key delta small few) ∙ addition_said key delta small few

pub addition_above : (key delta : ℕ) → key < 8 → delta < 2 ^ 64 → Above 31 (addition_front key delta)
addition_above key delta small few =
    above_append 31 (codes "incr ") (key_name key ++ (codes " " ++ (decimal delta ++ codes " noreply"))) (above_by 31 (codes "incr ") refl)
    (above_append 31 (key_name key) (codes " " ++ (decimal delta ++ codes " noreply"))
    (above_weaker 31 47 (key_name key) (omega arith) (above_name key small))
    (above_append 31 (codes " ") (decimal delta ++ codes " noreply") (above_by 31 (codes " ") refl)
    (above_append 31 (decimal delta) (codes " noreply") (above_weaker 31 47 (decimal delta) (omega arith) (above_decimal delta few))
    (above_by 31 (codes " noreply") refl))))
