-- The flaw that the reading of a level item finds is its first one.
use Rattle.std.proofs.Common.{◌≡◌, ◌⊎◌, ℕ, ◌-◌, ◌^◌, List, Option, Some, None, Result, Ok, Err, refl, sym, ap, subst, ◌∙◌, inl, inr}
use Rattle.std.specs.Prelude.{◌==◌}
use Rattle.byte_text.specs.Cuts.{cut, piece_or, first_piece}
use Rattle.byte_text.specs.Numerals.{number_in}
use Rattle.byte_text.proofs.CutLaws.{CutsAt, cuts_of, cut-from_IsCutAt}
use Rattle.synth_text.specs.declared.kind.Kind.{Kind}
use Rattle.synth_text.specs.declared.kind.Kind.TheVariants.{Machine, Package, Die, Group, L5, L4, L3, L2, L1d, L1i, Core, Pu, NumaNode}
use Rattle.synth_text.specs.declared.name.Name.{Name}
use Rattle.synth_text.specs.declared.name.Name.TheVariants as names
use Rattle.synth_text.specs.declared.fault.Flaw.{Flaw}
use Rattle.synth_text.specs.declared.fault.Flaw.TheVariants as flaws
use Rattle.synth_text.specs.Names.{name_of}
use Rattle.synth_text.specs.Flaws.{◌>>=◌, or_flaw}
use Rattle.synth_text.specs.Attributes.{attributes_of}
use Rattle.synth_text.specs.Parts.{level_name, with_arity, cut_head, head_of, level_part, cut_level, level_of}
use Rattle.synth_spelling.specs.Spelling.{NamesLevel, IsFront}
use Rattle.synth_spelling.specs.Refused.{HasNoName, HeadFlaw, BehindHead, LevelFlaw}
use Rattle.synth_spelling.proofs.Failing.{err_is, ok_not_err, bind_err, or_flaw_err, one_cut, no_cut}
use Rattle.synth_spelling.proofs.LevelItems.{level_named, named_level, head_spelled, head_read, front_of, piece_of}
use Rattle.synth_spelling.proofs.WordFlaws.{given_flawed, flawed_given}

-- ---- names

-- a name gives a kind, or is at fault
named_or : (o : Option Name) → (level_name o ≡ Err flaws.Name) ⊎ ((kind : Kind) × (level_name o ≡ Ok kind))
named_or None = inl refl
named_or (Some (names.Group number)) = inr (Group, refl)
named_or (Some (names.Kind Machine)) = inl refl
named_or (Some (names.Kind Package)) = inr (Package, refl)
named_or (Some (names.Kind Die)) = inr (Die, refl)
named_or (Some (names.Kind Group)) = inr (Group, refl)
named_or (Some (names.Kind L5)) = inr (L5, refl)
named_or (Some (names.Kind L4)) = inr (L4, refl)
named_or (Some (names.Kind L3)) = inr (L3, refl)
named_or (Some (names.Kind L2)) = inr (L2, refl)
named_or (Some (names.Kind L1d)) = inr (L1d, refl)
named_or (Some (names.Kind L1i)) = inr (L1i, refl)
named_or (Some (names.Kind Core)) = inr (Core, refl)
named_or (Some (names.Kind Pu)) = inr (Pu, refl)
named_or (Some (names.Kind NumaNode)) = inr (NumaNode, refl)

name_told : (o : Option Name) (flaw : Flaw) → level_name o ≡ Err flaw → flaws.Name ≡ flaw
name_told o flaw e =
    elim (named_or o) [
      | inl wrong ↦ err_is {A = Kind} flaws.Name flaw (sym wrong ∙ e)
      | inr right ↦ absurd (ok_not_err (level_name o) right.0 flaw right.1 e)
    ]

name_unknown : (o : Option Name) (flaw : Flaw) → level_name o ≡ Err flaw → (kind : Kind) → ¬ (NamesLevel o kind)
name_unknown o flaw e kind h = ok_not_err (level_name o) kind flaw (named_level o kind h) e

unknown_name : (o : Option Name) → ((kind : Kind) → ¬ (NamesLevel o kind)) → level_name o ≡ Err flaws.Name
unknown_name o unknown =
    elim (named_or o) [ inl wrong ↦ wrong | inr right ↦ absurd (unknown right.0 (level_named o right.0 right.1)) ]

-- ---- heads

arity_told : (kind : Kind) (text : List ℕ) (flaw : Flaw) → with_arity kind text ≡ Err flaw → flaws.Arity ≡ flaw
arity_told kind text flaw e =
    elim (bind_err (or_flaw flaws.Arity (number_in 1 (2 ^ 32 - 1) text)) (λ arity. Ok (kind, arity)) flaw e) [
      | inl wrong ↦ or_flaw_err flaws.Arity flaw (number_in 1 (2 ^ 32 - 1) text) wrong
      | inr read ↦ let no = read.2 in absurd cc
    ]

no_arity : (untyped : Kind) (head : List ℕ) (flaw : Flaw) → head_of untyped head ≡ Err flaw → ¬ (HasNoName head)
    → flaws.Arity ≡ flaw → HeadFlaw untyped head flaw
no_arity untyped head flaw e named told =
    let wrong : HeadFlaw untyped head flaws.Arity = record {
      named = named;
      wrong = λ kind arity spelled. ok_not_err (head_of untyped head) (kind, arity) flaw (head_read untyped head kind arity spelled) e;
    } in
    subst (HeadFlaw untyped head) told wrong

head_flawed : (untyped : Kind) (head : List ℕ) (flaw : Flaw) → head_of untyped head ≡ Err flaw → HeadFlaw untyped head flaw
unfolding head_of first_piece
head_flawed untyped head flaw e = by (cut (λ b. b == 58) head) (cuts_of 58 head) e
  where
    by : (o : Option (List ℕ × List ℕ)) → CutsAt 58 head o → cut_head untyped (piece_or head o) ≡ Err flaw
        → HeadFlaw untyped head flaw
    by None lacks h =
        no_arity untyped head flaw e (λ no. no_cut 58 head no.name no.behind lacks no.cut) (arity_told untyped head flaw h)
    by (Some parts) cuts h =
        elim (bind_err (level_name (name_of parts.0)) (λ k. with_arity k parts.1) flaw h) [
          | inl wrong ↦
              let unnamed : HeadFlaw untyped head flaws.Name = record {
                name = parts.0;
                behind = parts.1;
                cut = cuts;
                unknown = name_unknown (name_of parts.0) flaw wrong;
              } in
              subst (HeadFlaw untyped head) (name_told (name_of parts.0) flaw wrong) unnamed
          | inr read ↦
              no_arity untyped head flaw e
              (λ no.
              let same = one_cut 58 head parts.0 parts.1 no.name no.behind cuts no.cut in
              no.unknown read.0 (subst (λ name. NamesLevel (name_of name) read.0) same.0 (level_named (name_of parts.0) read.0 read.1)))
              (arity_told read.0 parts.1 flaw read.2)
        ]

flawed_head : (untyped : Kind) (head : List ℕ) (flaw : Flaw) → HeadFlaw untyped head flaw → head_of untyped head ≡ Err flaw
unfolding head_of first_piece
flawed_head untyped head flaws.Name h =
    rw (cut-from_IsCutAt 58 head h.name h.behind h.cut, unknown_name (name_of h.name) h.unknown) refl
flawed_head untyped head flaws.Arity h = by (head_of untyped head) refl
  where
    told : (flaw : Flaw) → HeadFlaw untyped head flaw → flaw ≡ flaws.Arity
    told flaws.Name wrong = absurd (h.named wrong)
    told flaws.Arity wrong = refl
    told flaws.Attribute wrong = absurd wrong
    told flaws.Indexes wrong = absurd wrong

    by : (r : Result (Kind × ℕ) Flaw) → head_of untyped head ≡ r → r ≡ Err flaws.Arity
    by (Ok p) is = absurd (h.wrong p.0 p.1 (head_spelled untyped head p.0 p.1 is))
    by (Err flaw) is = ap Err (told flaw (head_flawed untyped head flaw is))
flawed_head untyped head flaws.Attribute h = absurd h
flawed_head untyped head flaws.Indexes h = absurd h

-- ---- level items

pub level_flawed : (untyped : Kind) (text : List ℕ) (flaw : Flaw) → level_of untyped text ≡ Err flaw → LevelFlaw untyped text flaw
unfolding level_of first_piece
level_flawed untyped text flaw e =
    by (piece_or text (cut (λ b. b == 40) text)) (front_of 40 text (cut (λ b. b == 40) text) (cuts_of 40 text)) e
  where
    by : (parts : List ℕ × Option (List ℕ)) → IsFront 40 text parts.0 parts.1 → cut_level untyped parts ≡ Err flaw
        → LevelFlaw untyped text flaw
    by parts front h =
        elim (bind_err (head_of untyped parts.0)
        (λ (head : Kind × ℕ). attributes_of head.0 parts.1 >>= λ a. Ok (level_part head.0 head.1 a)) flaw h) [
          | inl wrong ↦ record {
            head = parts.0;
            given = parts.1;
            front = front;
            wrong = inl (head_flawed untyped parts.0 flaw wrong);
          }
          | inr head ↦
              elim (bind_err (attributes_of head.0.0 parts.1) (λ a. Ok (level_part head.0.0 head.0.1 a)) flaw head.2) [
                | inl wrong ↦ record {
                  head = parts.0;
                  given = parts.1;
                  front = front;
                  wrong = inr (record {
                    kind = head.0.0;
                    arity = head.0.1;
                    spelled = head_spelled untyped parts.0 head.0.0 head.0.1 head.1;
                    wrong = given_flawed head.0.0 parts.1 flaw wrong;
                  });
                }
                | inr read ↦ let no = read.2 in absurd cc
              ]
        ]

pub flawed_level : (untyped : Kind) (text : List ℕ) (flaw : Flaw) → LevelFlaw untyped text flaw → level_of untyped text ≡ Err flaw
unfolding level_of first_piece
flawed_level untyped text flaw h = by h.wrong
  where
    by : HeadFlaw untyped h.head flaw ⊎ BehindHead untyped h.head h.given flaw
        → cut_level untyped (piece_or text (cut (λ b. b == 40) text)) ≡ Err flaw
    by (inl wrong) = rw (piece_of 40 text h.head h.given h.front, flawed_head untyped h.head flaw wrong) refl
    by (inr behind) =
        rw (
          piece_of 40 text h.head h.given h.front,
          head_read untyped h.head behind.kind behind.arity behind.spelled,
          flawed_given behind.kind h.given flaw behind.wrong,
        ) refl
