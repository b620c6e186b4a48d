-- What a canonical item says is what it was written from.
use Rattle.std.proofs.Common.{
  ◌≡◌,
  ◌≢◌,
  ◌⊎◌,
  ℕ,
  ◌*◌,
  ◌-◌,
  ◌^◌,
  ◌<◌,
  ◌≤◌,
  Bool,
  true,
  false,
  eqb,
  List,
  [],
  ◌∷◌,
  ◌++◌,
  length,
  drop,
  map,
  Option,
  Some,
  None,
  Ok,
  refl,
  sym,
  ap,
  ◌∙◌,
  arith,
  inl,
  inr,
}
use Rattle.std.specs.Prelude.{IfSome, decimal, codes, ◌==◌}
use Rattle.std.specs.Char.{is_ascii_digit}
use Rattle.std.specs.List.{AllByRecursion, list_all, list_any, join_with_byte, slice_split, take_while, prefix_len}
use Rattle.std.proofs.lemmas.Bool.{and_from, le-leb, ne_eqb, lt-ltb, or_from, or_left, or_right, both_ways, cases_Bool}
use Rattle.std.proofs.lemmas.List.{append-nil, take_all}
use Rattle.std.proofs.lemmas.List.Folds.{list_any-append}
use Rattle.std.proofs.Math.ListN.{drop_of_length-le}
use Rattle.std.proofs.lemmas.Fmt.{decimal_is_IsNumeral}
use Rattle.synth_text.specs.declared.kind.Kind.{Kind}
use Rattle.synth_text.specs.declared.kind.Kind.TheVariants.{Machine, Package, Die, Group, L5, L4, L3, L2, L1d, L1i, Core, Pu, NumaNode}
use Rattle.synth_text.specs.declared.description.Loop.{Loop}
use Rattle.synth_text.specs.declared.description.Level.{Level}
use Rattle.synth_text.specs.declared.description.Memory.{Memory}
use Rattle.synth_text.specs.declared.description.Indexes.{Indexes}
use Rattle.synth_text.specs.declared.description.Indexes.TheVariants as indexes
use Rattle.synth_text.specs.declared.attributes.Attributes.{Attributes}
use Rattle.synth_text.specs.declared.attributes.Key.TheVariants as keys
use Rattle.synth_text.specs.declared.parts.Part.{Part}
use Rattle.synth_text.specs.Kinds.{is_cache, same_kind, long_name_of}
use Rattle.byte_text.specs.Classes.{is_white}
use Rattle.synth_text.specs.Names.{kind_named, name_of}
use Rattle.byte_text.specs.Numerals.{number_in}
use Rattle.byte_text.specs.Cuts.{cut, first_piece, without_front}
use Rattle.synth_text.specs.Sizes.{size_of}
use Rattle.synth_text.specs.IndexTexts.{index_of, loop_of, entries_of, indexes_of}
use Rattle.synth_text.specs.Attributes.{key_of, takes, no_attributes, enclosed, attributes_of}
use Rattle.synth_text.proofs.AttributeSteps.{with_word, with_next, with_first}
use Rattle.synth_text.specs.Parts.{level_name, head_of, level_part, level_of, memory_in_brackets, memory_of}
use Rattle.synth_text.specs.Canonical.{loop_text, size_texts, indexes_text, indexes_texts, in_parentheses, level_text, memory_text}
use Rattle.synth_text.specs.Sound.{IsSoundLoop, AreSoundIndexes, IsSoundLevel, IsSoundMemory}
use Rattle.synth_text.proofs.KindLaws.{same_kind-true, same_kind-equal}
use Rattle.byte_text.proofs.NumeralLaws.{in_range}
use Rattle.byte_text.proofs.CutLaws.{cut-at, prefix_len-is, first_piece-none}
use Rattle.synth_text.proofs.AttributeFold.{attributes_read}
use Rattle.synth_text.proofs.Texts.{
  each_append,
  each_weaker,
  each_at,
  each_joined,
  IsSolid,
  is_solid,
  IsInner,
  IsDigit,
  Lacks,
  solid_test,
  solid_not_white,
  solid_is_inner,
  digit_is_solid,
  decimal_digits,
  lacks,
  split_joined,
}

-- ---- numbers

pub reads_number : (low high n : ℕ) → n < 2 ^ 64 → low ≤ n → n ≤ high → number_in low high (decimal n) ≡ Some n
reads_number low high n small above below = let d = decimal_is_IsNumeral n small in in_range low high n (decimal n) d.0 d.1 above below

digit_passes : (b : ℕ) → IsDigit b → is_ascii_digit b ≡ true
digit_passes b h = and_from _ _ (le-leb 48 b h.0) (le-leb b 57 h.1)

all_digits_len : (n : ℕ) → n < 2 ^ 64 → prefix_len is_ascii_digit (decimal n) ≡ length (decimal n)
all_digits_len n small =
    prefix_len-is is_ascii_digit (decimal n) (length (decimal n)) (omega arith)
    (λ k lt. digit_passes _ (each_at IsDigit (decimal n) (decimal_digits n small) k lt)) (λ lt. absurd (omega arith))

pub reads_size : (n : ℕ) → n < 2 ^ 64 → size_of (decimal n) ≡ Some n
unfolding size_of
reads_size n small =
    let digits : take_while is_ascii_digit (decimal n) ≡ decimal n =
    rw (all_digits_len n small) (take_all (length (decimal n)) (decimal n) (omega arith)) in
    let behind : without_front is_ascii_digit (decimal n) ≡ [] =
    rw (all_digits_len n small) (drop_of_length-le (decimal n) (omega arith)) in
    let one : n * 1 ≡ n = omega arith in
    rw (digits, behind, reads_number 0 (2 ^ 64 - 1) n small (omega arith) (omega arith), one, lt-ltb n (2 ^ 64) small) refl

-- ---- indexes

not_digit : (byte : ℕ) → (byte < 48) ⊎ (57 < byte) → (b : ℕ) → IsDigit b → b ≢ byte
not_digit byte out b h e = elim out [ inl low ↦ omega (arith, h.0, e) | inr high ↦ omega (arith, h.1, e) ]

decimal_lacks : (byte : ℕ) → (byte < 48) ⊎ (57 < byte) → (n : ℕ) → n < 2 ^ 64 → Lacks (λ b. b == byte) (decimal n)
decimal_lacks byte out n small =
    each_weaker IsDigit (λ b. eqb b byte ≡ false) (λ b h. ne_eqb b byte (not_digit byte out b h)) (decimal n) (decimal_digits n small)

abbrev Small : ℕ → Type 0
Small n = n < 2 ^ 32

reads_indexes : (numbers : List ℕ) → AllByRecursion Small numbers → entries_of index_of (map decimal numbers) ≡ Some numbers
unfolding index_of
reads_indexes [] h = refl
reads_indexes (n ∷ numbers) h =
    let small : n < 2 ^ 32 = h.0 in
    rw (reads_number 0 (2 ^ 32 - 1) n (omega arith) (omega arith) (omega arith), reads_indexes numbers h.1) refl

numbers_lack : (byte : ℕ) → (byte < 48) ⊎ (57 < byte) → (numbers : List ℕ) → AllByRecursion Small numbers
    → AllByRecursion (Lacks (λ b. b == byte)) (map decimal numbers)
numbers_lack byte out [] h = tt
numbers_lack byte out (n ∷ numbers) h =
    let small : n < 2 ^ 32 = h.0 in (decimal_lacks byte out n (omega arith), numbers_lack byte out numbers h.1)

none_passes : (test : ℕ → Bool) (text : List ℕ) → Lacks test text → list_any test text ≡ false
none_passes test [] h = refl
none_passes test (b ∷ bs) h = or_from _ _ h.0 (none_passes test bs h.1)

reads_list : (n : ℕ) (numbers : List ℕ) → AllByRecursion Small (n ∷ numbers)
    → indexes_of (join_with_byte 44 (map decimal (n ∷ numbers))) ≡ Some (indexes.List (n ∷ numbers))
unfolding indexes_of
reads_list n numbers h =
    let star = none_passes (λ b. b == 42) (join_with_byte 44 (map decimal (n ∷ numbers)))
    (each_joined (λ b. (b == 42) ≡ false) 44 (map decimal (n ∷ numbers)) refl (numbers_lack 42 (inl (omega arith)) (n ∷ numbers) h))
    in
    rw (
      star,
      split_joined (λ b. b == 44) 44 (decimal n) (map decimal numbers) refl
          (numbers_lack 44 (inl (omega arith)) (n ∷ numbers) h),
      reads_indexes (n ∷ numbers) h,
    ) refl

loop_lacks : (byte : ℕ) → (byte < 42) ⊎ (57 < byte) → (given : Loop) → IsSoundLoop given → Lacks (λ b. b == byte) (loop_text given)
loop_lacks byte out given h =
    let step : given.step < 2 ^ 32 = h.step.1 in
    let count : given.count < 2 ^ 32 = h.count.1 in
    let far : (byte < 48) ⊎ (57 < byte) = elim out [ inl low ↦ inl (omega arith) | inr high ↦ inr high ] in
    let star : eqb 42 byte ≡ false = ne_eqb 42 byte (λ e. elim out [ inl low ↦ omega arith | inr high ↦ omega arith ]) in
    each_append (λ b. (b == byte) ≡ false) (decimal given.step) (42 ∷ decimal given.count) (decimal_lacks byte far given.step (omega arith))
    (star, decimal_lacks byte far given.count (omega arith))

loops_lack : (byte : ℕ) → (byte < 42) ⊎ (57 < byte) → (loops : List Loop) → AllByRecursion IsSoundLoop loops
    → AllByRecursion (Lacks (λ b. b == byte)) (map loop_text loops)
loops_lack byte out [] h = tt
loops_lack byte out (given ∷ loops) h = (loop_lacks byte out given h.0, loops_lack byte out loops h.1)

reads_loop : (given : Loop) → IsSoundLoop given → loop_of (loop_text given) ≡ Some given
unfolding loop_of
reads_loop given h =
    let step : given.step < 2 ^ 32 = h.step.1 in
    let count : given.count < 2 ^ 32 = h.count.1 in
    let cuts : cut (λ b. b == 42) (loop_text given) ≡ Some (decimal given.step, decimal given.count) =
    cut-at (λ b. b == 42) (decimal given.step) 42 (decimal given.count)
    (λ k lt. each_at (λ b. eqb b 42 ≡ false) (decimal given.step) (decimal_lacks 42 (inl (omega arith)) given.step (omega arith)) k lt) refl
    in
    rw (
      cuts,
      reads_number 1 (2 ^ 32 - 1) given.step (omega arith) h.step.0 (omega arith),
      reads_number 1 (2 ^ 32 - 1) given.count
          (omega arith) h.count.0 (omega arith),
    ) refl

reads_each_loop : (loops : List Loop) → AllByRecursion IsSoundLoop loops → entries_of loop_of (map loop_text loops) ≡ Some loops
reads_each_loop [] h = refl
reads_each_loop (given ∷ loops) h = rw (reads_loop given h.0, reads_each_loop loops h.1) refl

star_in_loop : (given : Loop) (rest : List ℕ) → list_any (λ b. b == 42) (loop_text given ++ rest) ≡ true
star_in_loop given rest =
    list_any-append (λ b. b == 42) (loop_text given) rest
    ∙ or_left (list_any (λ b. b == 42) (loop_text given)) (list_any (λ b. b == 42) rest)
    (list_any-append (λ b. b == 42) (decimal given.step) (42 ∷ decimal given.count)
    ∙ or_right (list_any (λ b. b == 42) (decimal given.step)) true refl)

reads_loops : (given : Loop) (loops : List Loop) → AllByRecursion IsSoundLoop (given ∷ loops)
    → indexes_of (join_with_byte 58 (map loop_text (given ∷ loops))) ≡ Some (indexes.Loops (given ∷ loops))
unfolding indexes_of
reads_loops given loops h =
    rw (
      star_joined given loops,
      split_joined (λ b. b == 58) 58 (loop_text given) (map loop_text loops) refl
          (loops_lack 58 (inr (omega arith)) (given ∷ loops) h),
      reads_each_loop (given ∷ loops) h,
    ) refl
  where
    star_joined : (given : Loop) (loops : List Loop) → list_any (λ b. b == 42) (join_with_byte 58 (map loop_text (given ∷ loops))) ≡ true
    star_joined given [] = ap (list_any (λ b. b == 42)) (sym (append-nil (loop_text given))) ∙ star_in_loop given []
    star_joined given (next ∷ loops) = star_in_loop given (58 ∷ join_with_byte 58 (map loop_text (next ∷ loops)))

reads_indexes_text : (given : Indexes) → given ≢ indexes.Ordered → AreSoundIndexes given
    → indexes_of (drop 8 (indexes_text given)) ≡ Some given
reads_indexes_text indexes.Ordered some h = absurd (some refl)
reads_indexes_text (indexes.List []) some h = absurd (omega (arith, h.0))
reads_indexes_text (indexes.List (n ∷ numbers)) some h = reads_list n numbers h.1
reads_indexes_text (indexes.Loops []) some h = absurd (omega (arith, h.0))
reads_indexes_text (indexes.Loops (given ∷ loops)) some h = reads_loops given loops h.1

-- ---- attributes

digits_solid : (n : ℕ) → n < 2 ^ 64 → AllByRecursion IsSolid (decimal n)
digits_solid n small = each_weaker IsDigit IsSolid digit_is_solid (decimal n) (decimal_digits n small)

numbers_solid : (numbers : List ℕ) → AllByRecursion Small numbers → AllByRecursion (AllByRecursion IsSolid) (map decimal numbers)
numbers_solid [] h = tt
numbers_solid (n ∷ numbers) h = let small : n < 2 ^ 32 = h.0 in (digits_solid n (omega arith), numbers_solid numbers h.1)

abbrev solid_byte : (b : ℕ) → is_solid b ≡ true → IsSolid b
solid_byte b h = (solid_test (b ∷ []) (and_from _ _ h refl)).0

loops_solid : (loops : List Loop) → AllByRecursion IsSoundLoop loops → AllByRecursion (AllByRecursion IsSolid) (map loop_text loops)
loops_solid [] h = tt
loops_solid (given ∷ loops) h =
    let step : given.step < 2 ^ 32 = h.0.step.1 in
    let count : given.count < 2 ^ 32 = h.0.count.1 in (
      each_append IsSolid (decimal given.step) (42 ∷ decimal given.count) (digits_solid given.step (omega arith))
          (solid_byte 42 refl, digits_solid given.count (omega arith)),
      loops_solid loops h.1,
    )

indexes_solid : (given : Indexes) → AreSoundIndexes given → AllByRecursion (AllByRecursion IsSolid) (indexes_texts given)
indexes_solid indexes.Ordered h = tt
indexes_solid (indexes.List numbers) h = (
  each_append IsSolid (codes "indexes=") (join_with_byte 44 (map decimal numbers)) (solid_test (codes "indexes=") refl)
      (each_joined IsSolid 44 (map decimal numbers) (solid_byte 44 refl) (numbers_solid numbers h.1)),
  tt,
)
indexes_solid (indexes.Loops loops) h = (
  each_append IsSolid (codes "indexes=") (join_with_byte 58 (map loop_text loops)) (solid_test (codes "indexes=") refl)
      (each_joined IsSolid 58 (map loop_text loops) (solid_byte 58 refl) (loops_solid loops h.1)),
  tt,
)

size_solid : (key : List ℕ) → AllByRecursion IsSolid key → (size : Option ℕ) → IfSome size (λ n. n < 2 ^ 64)
    → AllByRecursion (AllByRecursion IsSolid) (size_texts key size)
size_solid key h None small = tt
size_solid key h (Some n) small = (each_append IsSolid key (61 ∷ decimal n) h (solid_byte 61 refl, digits_solid n small), tt)

-- what is written in parentheses is read as its words
pub reads_parentheses : (kind : Kind) (first : List ℕ) (texts : List (List ℕ)) → AllByRecursion (AllByRecursion IsSolid) (first ∷ texts)
    → attributes_of kind (Some (join_with_byte 32 (first ∷ texts) ++ 41 ∷ [])) ≡ with_first kind (first ∷ texts)
unfolding enclosed
reads_parentheses kind first texts h =
    let joined = join_with_byte 32 (first ∷ texts) in
    let inner : AllByRecursion IsInner joined =
    each_joined IsInner 32 (first ∷ texts) ((λ e. absurd (omega arith), λ e. absurd (omega arith)))
    (each_weaker (AllByRecursion IsSolid) (AllByRecursion IsInner) (λ text t. each_weaker IsSolid IsInner solid_is_inner text t)
    (first ∷ texts) h)
    in
    let cuts : cut (λ b. b == 41) (joined ++ 41 ∷ []) ≡ Some (joined, []) =
    cut-at (λ b. b == 41) joined 41 [] (lacks IsInner 41 (λ b t. t.0) joined inner) refl in
    let split : slice_split is_white joined ≡ first ∷ texts =
    split_joined is_white 32 first texts refl
    (each_weaker (AllByRecursion IsSolid) (Lacks is_white)
    (λ text t. each_weaker IsSolid (λ b. is_white b ≡ false) solid_not_white text t) (first ∷ texts) h)
    in
    rw (cuts, attributes_read kind joined, split) refl

reads_size_word : (kind : Kind) (a : Attributes) (n : ℕ) → n < 2 ^ 64 → is_cache kind ≡ true → a.size ≡ None
    → with_word kind a (codes "size" ++ 61 ∷ decimal n) ≡ Ok (record a { size = Some n })
unfolding with_word key_of
reads_size_word kind a n small cache none = rw (cache, none, reads_size n small) refl

reads_memory_word : (a : Attributes) (n : ℕ) → n < 2 ^ 64 → a.memory ≡ None
    → with_word NumaNode a (codes "memory" ++ 61 ∷ decimal n) ≡ Ok (record a { memory = Some n })
unfolding with_word key_of
reads_memory_word a n small none = rw (none, reads_size n small) refl

indexes_word : (kind : Kind) (a : Attributes) (value : List ℕ) (given : Indexes) → takes kind keys.Indexes ≡ true
    → a.indexes ≡ indexes.Ordered → indexes_of value ≡ Some given
    → with_word kind a (codes "indexes=" ++ value) ≡ Ok (record a { indexes = given })
unfolding with_word key_of
indexes_word kind a value given taken none read = rw (taken, none, read) refl

-- ---- levels

-- how a kind's long name is read
pub record NamesKind (kind : Kind) : Type 0 where
  pub reads : level_name (name_of (long_name_of kind)) ≡ Ok kind
  pub solid : list_all is_solid (long_name_of kind) ≡ true
  pub no_colon : (rest : List ℕ) → cut (λ b. b == 58) (long_name_of kind ++ 58 ∷ rest) ≡ Some (long_name_of kind, rest)
  pub ordinary : (arity : ℕ) (a : Attributes)
      → level_part kind arity a ≡ record
      { level = Some (record { kind = kind; arity = arity; size = a.size; indexes = a.indexes }); nodes = None }

pub names_kind : (kind : Kind) → kind ≢ Machine → kind ≢ NumaNode → NamesKind kind
unfolding kind_named
names_kind Machine m n = absurd (m refl)
names_kind NumaNode m n = absurd (n refl)
names_kind Package m n = record { reads = refl; solid = refl; no_colon = λ rest. refl; ordinary = λ arity a. refl }
names_kind Die m n = record { reads = refl; solid = refl; no_colon = λ rest. refl; ordinary = λ arity a. refl }
names_kind Group m n = record { reads = refl; solid = refl; no_colon = λ rest. refl; ordinary = λ arity a. refl }
names_kind L5 m n = record { reads = refl; solid = refl; no_colon = λ rest. refl; ordinary = λ arity a. refl }
names_kind L4 m n = record { reads = refl; solid = refl; no_colon = λ rest. refl; ordinary = λ arity a. refl }
names_kind L3 m n = record { reads = refl; solid = refl; no_colon = λ rest. refl; ordinary = λ arity a. refl }
names_kind L2 m n = record { reads = refl; solid = refl; no_colon = λ rest. refl; ordinary = λ arity a. refl }
names_kind L1d m n = record { reads = refl; solid = refl; no_colon = λ rest. refl; ordinary = λ arity a. refl }
names_kind L1i m n = record { reads = refl; solid = refl; no_colon = λ rest. refl; ordinary = λ arity a. refl }
names_kind Core m n = record { reads = refl; solid = refl; no_colon = λ rest. refl; ordinary = λ arity a. refl }
names_kind Pu m n = record { reads = refl; solid = refl; no_colon = λ rest. refl; ordinary = λ arity a. refl }

-- a level's head, as it is written
abbrev pub head_text : Kind → ℕ → List ℕ
head_text kind arity = long_name_of kind ++ 58 ∷ decimal arity

pub head_solid : (kind : Kind) (arity : ℕ) → NamesKind kind → arity < 2 ^ 32 → AllByRecursion IsSolid (head_text kind arity)
head_solid kind arity k small =
    each_append IsSolid (long_name_of kind) (58 ∷ decimal arity) (solid_test (long_name_of kind) k.solid)
    (solid_byte 58 refl, digits_solid arity (omega arith))

reads_head : (untyped kind : Kind) (arity : ℕ) → NamesKind kind → 1 ≤ arity → arity < 2 ^ 32
    → head_of untyped (head_text kind arity) ≡ Ok (kind, arity)
unfolding head_of first_piece
reads_head untyped kind arity k some small =
    rw (k.no_colon (decimal arity), k.reads, reads_number 1 (2 ^ 32 - 1) arity (omega arith) some (omega arith)) refl

-- what is written between two parts of an item is cut there
cuts_parentheses : (head : List ℕ) (first : List ℕ) (texts : List (List ℕ)) → AllByRecursion IsSolid head
    → first_piece (λ b. b == 40) (head ++ in_parentheses (first ∷ texts)) ≡ (head, Some (join_with_byte 32 (first ∷ texts) ++ 41 ∷ []))
unfolding first_piece
cuts_parentheses head first texts h =
    let cuts : cut (λ b. b == 40) (head ++ 40 ∷ (join_with_byte 32 (first ∷ texts) ++ 41 ∷ [])) ≡ Some
    (head, join_with_byte 32 (first ∷ texts) ++ 41 ∷ []) =
    cut-at (λ b. b == 40) head 40 (join_with_byte 32 (first ∷ texts) ++ 41 ∷ [])
    (lacks IsSolid 40 (λ b t e. absurd (omega (arith, t.0))) head h) refl
    in
    rw cuts refl

cuts_nothing : (head : List ℕ) → AllByRecursion IsSolid head → first_piece (λ b. b == 40) (head ++ []) ≡ (head, None)
cuts_nothing head h =
    ap (first_piece (λ b. b == 40)) (append-nil head)
    ∙ first_piece-none (λ b. b == 40) head (lacks IsSolid 40 (λ b t e. absurd (omega (arith, t.0))) head h)

-- the attributes as they are written are read so
abbrev ReadsTexts : Kind → List (List ℕ) → Attributes → Type 0
ReadsTexts kind [] a = no_attributes ≡ a
ReadsTexts kind (first ∷ texts) a = with_first kind (first ∷ texts) ≡ Ok a

reads_texts : (untyped kind : Kind) (arity : ℕ) (texts : List (List ℕ)) (a : Attributes) → NamesKind kind → 1 ≤ arity → arity < 2 ^ 32
    → AllByRecursion (AllByRecursion IsSolid) texts
    → ReadsTexts kind texts a → level_of untyped (head_text kind arity ++ in_parentheses texts) ≡ Ok (level_part kind arity a)
unfolding level_of
reads_texts untyped kind arity [] a k some small solid reads =
    rw (cuts_nothing (head_text kind arity) (head_solid kind arity k small), reads_head untyped kind arity k some small, reads) refl
reads_texts untyped kind arity (first ∷ texts) a k some small solid reads =
    rw (
      cuts_parentheses (head_text kind arity) first texts
          (head_solid kind arity k small),
      reads_head untyped kind arity k some small,
      reads_parentheses kind first texts solid,
      reads,
    ) refl

abbrev level_attributes : Option ℕ → Indexes → Attributes
level_attributes size given = record { size = size; memory = None; indexes = given }

no_pu : (kind : Kind) → is_cache kind ≡ true → kind ≢ Pu
no_pu kind cache e = both_ways _ (ap is_cache e) cache

takes_pu : (kind : Kind) → kind ≡ Pu → takes kind keys.Indexes ≡ true
takes_pu kind e = ap (λ k. takes k keys.Indexes) e

is_pu : (kind : Kind) (given : Indexes) → (kind ≢ Pu → given ≡ indexes.Ordered) → given ≢ indexes.Ordered → kind ≡ Pu
is_pu kind given indexed some =
    elim (cases_Bool (same_kind kind Pu)) [
      | inl same ↦ same_kind-true kind Pu same
      | inr other ↦ absurd (some (indexed (λ e. both_ways _ other (same_kind-equal kind Pu e))))
    ]

level_texts_read : (kind : Kind) (size : Option ℕ) (given : Indexes) → IfSome size (λ n. (is_cache kind ≡ true) × (n < 2 ^ 64))
    → AreSoundIndexes given → (kind ≢ Pu → given ≡ indexes.Ordered)
    → ReadsTexts kind (size_texts (codes "size") size ++ indexes_texts given) (level_attributes size given)
level_texts_read kind None indexes.Ordered h k indexed = refl
level_texts_read kind None (indexes.List numbers) h k indexed =
    let pu = is_pu kind (indexes.List numbers) indexed (λ e. absurd cc) in
    rw (indexes_word kind no_attributes (join_with_byte 44 (map decimal numbers)) (indexes.List numbers) (takes_pu kind pu) refl
    (reads_indexes_text (indexes.List numbers) (λ e. absurd cc) k)) refl
level_texts_read kind None (indexes.Loops loops) h k indexed =
    let pu = is_pu kind (indexes.Loops loops) indexed (λ e. absurd cc) in
    rw (indexes_word kind no_attributes (join_with_byte 58 (map loop_text loops)) (indexes.Loops loops) (takes_pu kind pu) refl
    (reads_indexes_text (indexes.Loops loops) (λ e. absurd cc) k)) refl
level_texts_read kind (Some n) indexes.Ordered h k indexed = rw (reads_size_word kind no_attributes n h.1 h.0 refl) refl
level_texts_read kind (Some n) (indexes.List numbers) h k indexed =
    absurd (no_pu kind h.0 (is_pu kind (indexes.List numbers) indexed (λ e. absurd cc)))
level_texts_read kind (Some n) (indexes.Loops loops) h k indexed =
    absurd (no_pu kind h.0 (is_pu kind (indexes.Loops loops) indexed (λ e. absurd cc)))

size_small : (kind : Kind) (size : Option ℕ) → IfSome size (λ n. (is_cache kind ≡ true) × (n < 2 ^ 64)) → IfSome size (λ n. n < 2 ^ 64)
size_small kind None h = tt
size_small kind (Some n) h = h.1

pub level_texts_solid : (level : Level) → IsSoundLevel level
    → AllByRecursion (AllByRecursion IsSolid) (size_texts (codes "size") level.size ++ indexes_texts level.indexes)
level_texts_solid level h =
    each_append (AllByRecursion IsSolid) (size_texts (codes "size") level.size) (indexes_texts level.indexes)
    (size_solid (codes "size") (solid_test (codes "size") refl) level.size (size_small level.kind level.size h.size))
    (indexes_solid level.indexes h.given)

-- a level is read from its text, whatever kind a level without a name would have
pub reads_level : (untyped : Kind) (level : Level) → IsSoundLevel level
    → level_of untyped (level_text level) ≡ Ok (record { level = Some level; nodes = None })
reads_level untyped level h =
    let names = names_kind level.kind h.no_machine h.no_node in
    reads_texts untyped level.kind level.arity (size_texts (codes "size") level.size ++ indexes_texts level.indexes)
    (level_attributes level.size level.indexes) names h.arity.0 h.arity.1
    (level_texts_solid level h) (level_texts_read level.kind level.size level.indexes h.size h.given h.indexed)
    ∙ ap Ok (names.ordinary level.arity (level_attributes level.size level.indexes))

-- ---- memory

memory_texts_read : (size : Option ℕ) (given : Indexes) → IfSome size (λ n. n < 2 ^ 64) → AreSoundIndexes given
    → ReadsTexts NumaNode (size_texts (codes "memory") size ++ indexes_texts given) (record { size = None; memory = size; indexes = given })
unfolding with_next
memory_texts_read None indexes.Ordered h k = refl
memory_texts_read None (indexes.List numbers) h k =
    rw (indexes_word NumaNode no_attributes (join_with_byte 44 (map decimal numbers)) (indexes.List numbers) refl refl
    (reads_indexes_text (indexes.List numbers) (λ e. absurd cc) k)) refl
memory_texts_read None (indexes.Loops loops) h k =
    rw (indexes_word NumaNode no_attributes (join_with_byte 58 (map loop_text loops)) (indexes.Loops loops) refl refl
    (reads_indexes_text (indexes.Loops loops) (λ e. absurd cc) k)) refl
memory_texts_read (Some n) indexes.Ordered h k = rw (reads_memory_word no_attributes n h refl) refl
memory_texts_read (Some n) (indexes.List numbers) h k =
    rw (
      reads_memory_word no_attributes n h refl,
      indexes_word NumaNode (record { size = None; memory = Some n; indexes = indexes.Ordered }) (join_with_byte 44 (map decimal numbers))
          (indexes.List numbers) refl refl (reads_indexes_text (indexes.List numbers) (λ e. absurd cc) k),
    ) refl
memory_texts_read (Some n) (indexes.Loops loops) h k =
    rw (
      reads_memory_word no_attributes n h refl,
      indexes_word NumaNode (record { size = None; memory = Some n; indexes = indexes.Ordered }) (join_with_byte 58 (map loop_text loops))
          (indexes.Loops loops) refl refl (reads_indexes_text (indexes.Loops loops) (λ e. absurd cc) k),
    ) refl

pub memory_texts_solid : (size : Option ℕ) (given : Indexes) → IfSome size (λ n. n < 2 ^ 64) → AreSoundIndexes given
    → AllByRecursion (AllByRecursion IsSolid) (size_texts (codes "memory") size ++ indexes_texts given)
memory_texts_solid size given h k =
    each_append (AllByRecursion IsSolid) (size_texts (codes "memory") size) (indexes_texts given)
    (size_solid (codes "memory") (solid_test (codes "memory") refl) size h) (indexes_solid given k)

abbrev nodes_part : Attributes → Part
nodes_part a = record { level = None; nodes = Some (record { size = a.memory; indexes = a.indexes }) }

reads_brackets : (texts : List (List ℕ)) (a : Attributes) → AllByRecursion (AllByRecursion IsSolid) texts → ReadsTexts NumaNode texts a
    → memory_in_brackets (codes "NUMANode" ++ in_parentheses texts) ≡ Ok (nodes_part a)
unfolding memory_in_brackets kind_named
reads_brackets [] a solid reads = rw (← reads) refl
reads_brackets (first ∷ texts) a solid reads = rw (reads_parentheses NumaNode first texts solid, reads) refl

inner_parentheses : (texts : List (List ℕ)) → AllByRecursion (AllByRecursion IsSolid) texts
    → AllByRecursion (λ b. b ≢ 93) (in_parentheses texts)
inner_parentheses [] h = tt
inner_parentheses (first ∷ texts) h = (
  (λ e. absurd (omega arith)),
  each_append (λ b. b ≢ 93) (join_with_byte 32 (first ∷ texts)) (41 ∷ [])
      (each_joined (λ b. b ≢ 93) 32 (first ∷ texts) (λ e. absurd (omega arith))
      (each_weaker (AllByRecursion IsSolid) (AllByRecursion (λ b. b ≢ 93))
      (λ text t. each_weaker IsSolid (λ b. b ≢ 93) (λ b s. s.2) text t) (first ∷ texts) h))
      (((λ e. absurd (omega arith)), tt)),
)

-- what stands between the brackets of the memory's text
pub no_bracket : (texts : List (List ℕ)) → AllByRecursion (AllByRecursion IsSolid) texts
    → AllByRecursion (λ b. b ≢ 93) (codes "NUMANode" ++ in_parentheses texts)
no_bracket texts h =
    each_append (λ b. b ≢ 93) (codes "NUMANode") (in_parentheses texts)
    (each_weaker IsSolid (λ b. b ≢ 93) (λ b s. s.2) (codes "NUMANode") (solid_test (codes "NUMANode") refl)) (inner_parentheses texts h)

reads_memory_texts : (texts : List (List ℕ)) (a : Attributes) → AllByRecursion (AllByRecursion IsSolid) texts → ReadsTexts NumaNode texts a
    → memory_of ((codes "[NUMANode" ++ in_parentheses texts) ++ 93 ∷ []) ≡ Ok (nodes_part a)
unfolding memory_of first_piece
reads_memory_texts texts a solid reads =
    let inner = codes "NUMANode" ++ in_parentheses texts in
    let cuts : cut (λ b. b == 93) (inner ++ 93 ∷ []) ≡ Some (inner, []) =
    cut-at (λ b. b == 93) inner 93 [] (lacks (λ b. b ≢ 93) 93 (λ b t. t) inner (no_bracket texts solid)) refl in
    rw (cuts, reads_brackets texts a solid reads) refl

pub reads_memory : (above total : ℕ) (memory : Memory) → IsSoundMemory total memory
    → memory_of (memory_text memory) ≡ Ok (record { level = None; nodes = Some (record { size = memory.size; indexes = memory.indexes }) })
reads_memory above total memory h =
    reads_memory_texts (size_texts (codes "memory") memory.size ++ indexes_texts memory.indexes)
    (record { size = None; memory = memory.size; indexes = memory.indexes })
    (memory_texts_solid memory.size memory.indexes h.size h.given) (memory_texts_read memory.size memory.indexes h.size h.given)
