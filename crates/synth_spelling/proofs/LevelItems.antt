-- The computed reading of a level item is how it is spelled.
use Rattle.std.proofs.Common.{◌≡◌, ℕ, ◌-◌, ◌^◌, List, Option, Some, None, Ok, refl, sym, ap, subst, ◌∙◌, inl, inr}
use Rattle.std.specs.Prelude.{◌==◌}
use Rattle.std.specs.List.{list_all}
use Rattle.byte_text.specs.Classes.{is_white}
use Rattle.byte_text.specs.Cuts.{cut, piece_or, first_piece}
use Rattle.byte_text.specs.Numerals.{number_in}
use Rattle.byte_text.proofs.CutLaws.{CutsAt, cuts_of, cut-from_IsCutAt, cut-from_lacks}
use Rattle.synth_text.specs.declared.kind.Kind.{Kind}
use Rattle.synth_text.specs.declared.kind.Kind.TheVariants.{Machine, Package, Die, Group, L5, L4, L3, L2, L1d, L1i, Core, Pu, NumaNode}
use Rattle.synth_text.specs.declared.name.Name.{Name}
use Rattle.synth_text.specs.declared.name.Name.TheVariants as names
use Rattle.synth_text.specs.declared.attributes.Attributes.{Attributes}
use Rattle.synth_text.specs.declared.parts.Part.{Part}
use Rattle.synth_text.specs.declared.fault.Flaw.TheVariants as flaws
use Rattle.synth_text.specs.Names.{name_of}
use Rattle.synth_text.specs.Flaws.{◌>>=◌, or_flaw}
use Rattle.synth_text.specs.Attributes.{attributes_in, closed, enclosed, no_attributes, attributes_of}
use Rattle.synth_text.specs.Parts.{level_name, with_arity, cut_head, head_of, level_part, cut_level, level_of}
use Rattle.synth_spelling.specs.Spelling.{IsNumber, NamesLevel, SpellsHead, SpellsEnclosed, SpellsAttributes, IsFront, SpellsLevel}
use Rattle.synth_text.proofs.Bound.{ok_is, bind_ok, or_flaw-ok, guard_ok}
use Rattle.synth_spelling.proofs.Values.{number_spelled, number_read}
use Rattle.synth_spelling.proofs.Words.{attributes_spelled, attributes_read_of}

-- ---- numbers and names

pub level_named : (o : Option Name) (kind : Kind) → level_name o ≡ Ok kind → NamesLevel o kind
level_named None kind e = absurd cc
level_named (Some (names.Group number)) kind e = ok_is Group kind e
level_named (Some (names.Kind Machine)) kind e = absurd cc
level_named (Some (names.Kind Package)) kind e = let is : Package ≡ kind = ok_is Package kind e in (is, λ m. absurd cc)
level_named (Some (names.Kind Die)) kind e = let is : Die ≡ kind = ok_is Die kind e in (is, λ m. absurd cc)
level_named (Some (names.Kind Group)) kind e = let is : Group ≡ kind = ok_is Group kind e in (is, λ m. absurd cc)
level_named (Some (names.Kind L5)) kind e = let is : L5 ≡ kind = ok_is L5 kind e in (is, λ m. absurd cc)
level_named (Some (names.Kind L4)) kind e = let is : L4 ≡ kind = ok_is L4 kind e in (is, λ m. absurd cc)
level_named (Some (names.Kind L3)) kind e = let is : L3 ≡ kind = ok_is L3 kind e in (is, λ m. absurd cc)
level_named (Some (names.Kind L2)) kind e = let is : L2 ≡ kind = ok_is L2 kind e in (is, λ m. absurd cc)
level_named (Some (names.Kind L1d)) kind e = let is : L1d ≡ kind = ok_is L1d kind e in (is, λ m. absurd cc)
level_named (Some (names.Kind L1i)) kind e = let is : L1i ≡ kind = ok_is L1i kind e in (is, λ m. absurd cc)
level_named (Some (names.Kind Core)) kind e = let is : Core ≡ kind = ok_is Core kind e in (is, λ m. absurd cc)
level_named (Some (names.Kind Pu)) kind e = let is : Pu ≡ kind = ok_is Pu kind e in (is, λ m. absurd cc)
level_named (Some (names.Kind NumaNode)) kind e = let is : NumaNode ≡ kind = ok_is NumaNode kind e in (is, λ m. absurd cc)

pub named_level : (o : Option Name) (kind : Kind) → NamesLevel o kind → level_name o ≡ Ok kind
named_level None kind h = absurd h
named_level (Some (names.Group number)) kind h = ap Ok h
named_level (Some (names.Kind Machine)) kind h = absurd (h.1 (sym h.0))
named_level (Some (names.Kind Package)) kind h = ap Ok h.0
named_level (Some (names.Kind Die)) kind h = ap Ok h.0
named_level (Some (names.Kind Group)) kind h = ap Ok h.0
named_level (Some (names.Kind L5)) kind h = ap Ok h.0
named_level (Some (names.Kind L4)) kind h = ap Ok h.0
named_level (Some (names.Kind L3)) kind h = ap Ok h.0
named_level (Some (names.Kind L2)) kind h = ap Ok h.0
named_level (Some (names.Kind L1d)) kind h = ap Ok h.0
named_level (Some (names.Kind L1i)) kind h = ap Ok h.0
named_level (Some (names.Kind Core)) kind h = ap Ok h.0
named_level (Some (names.Kind Pu)) kind h = ap Ok h.0
named_level (Some (names.Kind NumaNode)) kind h = ap Ok h.0

-- ---- heads

arity_spelled : (k kind : Kind) (text : List ℕ) (arity : ℕ) → with_arity k text ≡ Ok (kind, arity)
    → (k ≡ kind) × IsNumber 1 (2 ^ 32 - 1) arity text
arity_spelled k kind text arity e =
    let read = bind_ok (or_flaw flaws.Arity (number_in 1 (2 ^ 32 - 1) text)) (λ n. Ok (k, n)) (kind, arity) e in
    let same : (k, read.0) ≡ (kind, arity) = ok_is (k, read.0) (kind, arity) read.2 in
    let number = number_spelled 1 (2 ^ 32 - 1) read.0 text (or_flaw-ok flaws.Arity (number_in 1 (2 ^ 32 - 1) text) read.0 read.1) in
    (ap (λ (p : Kind × ℕ). p.0) same, subst (λ n. IsNumber 1 (2 ^ 32 - 1) n text) (ap (λ (p : Kind × ℕ). p.1) same) number)

pub head_spelled : (untyped : Kind) (head : List ℕ) (kind : Kind) (arity : ℕ) → head_of untyped head ≡ Ok (kind, arity)
    → SpellsHead untyped head kind arity
unfolding head_of first_piece
head_spelled untyped head kind arity e = by (cut (λ b. b == 58) head) (cuts_of 58 head) e
  where
    by : (o : Option (List ℕ × List ℕ)) → CutsAt 58 head o → cut_head untyped (piece_or head o) ≡ Ok (kind, arity)
        → SpellsHead untyped head kind arity
    by None lacks h =
        let a = arity_spelled untyped kind head arity h in inr (record { lacks = lacks; placed = a.0; number = a.1 })
    by (Some parts) cuts h =
        let first = bind_ok (level_name (name_of parts.0)) (λ k. with_arity k parts.1) (kind, arity) h in
        let a = arity_spelled first.0 kind parts.1 arity first.2 in
        inl (record {
          name = parts.0;
          numeral = parts.1;
          cut = cuts;
          named = subst (NamesLevel (name_of parts.0)) a.0 (level_named (name_of parts.0) first.0 first.1);
          number = a.1;
        })

pub head_read : (untyped : Kind) (head : List ℕ) (kind : Kind) (arity : ℕ) → SpellsHead untyped head kind arity
    → head_of untyped head ≡ Ok (kind, arity)
unfolding head_of first_piece
head_read untyped head kind arity (inl h) =
    rw (
      cut-from_IsCutAt 58 head h.name h.numeral h.cut,
      named_level (name_of h.name) kind h.named,
      number_read 1 (2 ^ 32 - 1) arity h.numeral h.number,
    ) refl
head_read untyped head kind arity (inr h) =
    rw (cut-from_lacks 58 head h.lacks, number_read 1 (2 ^ 32 - 1) arity head h.number) (ap (λ k. Ok (k, arity)) h.placed)

-- ---- attributes

enclosed_spelled : (kind : Kind) (text : List ℕ) (a : Attributes) → (enclosed text >>= λ inner. attributes_in kind inner) ≡ Ok a
    → SpellsEnclosed kind text a
unfolding enclosed
enclosed_spelled kind text a e = by (cut (λ b. b == 41) text) (cuts_of 41 text) e
  where
    by : (o : Option (List ℕ × List ℕ)) → CutsAt 41 text o → (closed o >>= λ inner. attributes_in kind inner) ≡ Ok a
        → SpellsEnclosed kind text a
    by None lacks h = absurd cc
    by (Some parts) cuts h =
        let read = bind_ok (closed (Some parts)) (λ inner. attributes_in kind inner) a h in
        let g = guard_ok (list_all is_white parts.1) (Ok parts.0) flaws.Attribute read.0 read.1 in
        let same : parts.0 ≡ read.0 = ok_is parts.0 read.0 g.1 in
        record {
          inner = parts.0;
          behind = parts.1;
          cut = cuts;
          blank = g.0;
          words = attributes_spelled kind parts.0 a (ap (λ inner. attributes_in kind inner) same ∙ read.2);
        }

enclosed_read : (kind : Kind) (text : List ℕ) (a : Attributes) → SpellsEnclosed kind text a
    → (enclosed text >>= λ inner. attributes_in kind inner) ≡ Ok a
unfolding enclosed
enclosed_read kind text a h = rw (cut-from_IsCutAt 41 text h.inner h.behind h.cut, h.blank) (attributes_read_of kind h.inner a h.words)

pub given_spelled : (kind : Kind) (given : Option (List ℕ)) (a : Attributes) → attributes_of kind given ≡ Ok a
    → SpellsAttributes kind given a
given_spelled kind None a e = ok_is no_attributes a e
given_spelled kind (Some text) a e = enclosed_spelled kind text a e

pub given_read : (kind : Kind) (given : Option (List ℕ)) (a : Attributes) → SpellsAttributes kind given a → attributes_of kind given ≡ Ok a
given_read kind None a h = ap Ok h
given_read kind (Some text) a h = enclosed_read kind text a h

-- ---- level items

pub front_of : (byte : ℕ) (text : List ℕ) (o : Option (List ℕ × List ℕ)) → CutsAt byte text o
    → IsFront byte text (piece_or text o).0 (piece_or text o).1
front_of byte text None lacks = (lacks, refl)
front_of byte text (Some parts) cuts = cuts

pub piece_of : (byte : ℕ) (text front : List ℕ) (given : Option (List ℕ)) → IsFront byte text front given
    → piece_or text (cut (λ b. b == byte) text) ≡ (front, given)
piece_of byte text front None h = rw (cut-from_lacks byte text h.0) (ap (λ (f : List ℕ). with_none f) h.1)
  where
    with_none : List ℕ → List ℕ × Option (List ℕ)
    with_none f = (f, None)
piece_of byte text front (Some behind) h = rw (cut-from_IsCutAt byte text front behind h) refl

pub level_spelled : (untyped : Kind) (text : List ℕ) (part : Part) → level_of untyped text ≡ Ok part → SpellsLevel untyped text part
unfolding level_of first_piece
level_spelled untyped text part e =
    by (piece_or text (cut (λ b. b == 40) text)) (front_of 40 text (cut (λ b. b == 40) text) (cuts_of 40 text)) e
  where
    by : (parts : List ℕ × Option (List ℕ)) → IsFront 40 text parts.0 parts.1 → cut_level untyped parts ≡ Ok part
        → SpellsLevel untyped text part
    by parts front h =
        let head = bind_ok (head_of untyped parts.0)
        (λ (head : Kind × ℕ). attributes_of head.0 parts.1 >>= λ a. Ok (level_part head.0 head.1 a))
        part h in
        let given = bind_ok (attributes_of head.0.0 parts.1) (λ a. Ok (level_part head.0.0 head.0.1 a)) part head.2 in
        record {
          head = parts.0;
          given = parts.1;
          kind = head.0.0;
          arity = head.0.1;
          attributes = given.0;
          front = front;
          spelled = head_spelled untyped parts.0 head.0.0 head.0.1 head.1;
          attributed = given_spelled head.0.0 parts.1 given.0 given.1;
          says = ok_is (level_part head.0.0 head.0.1 given.0) part given.2;
        }

pub level_read : (untyped : Kind) (text : List ℕ) (part : Part) → SpellsLevel untyped text part → level_of untyped text ≡ Ok part
unfolding level_of first_piece
level_read untyped text part h =
    rw (
      piece_of 40 text h.head h.given h.front,
      head_read untyped h.head h.kind h.arity h.spelled,
      given_read h.kind h.given h.attributes h.attributed,
    ) (ap Ok h.says)
