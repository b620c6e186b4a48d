-- What stands behind a block, through the next line end.
use Rattle.std.proofs.Common.{◌≡◌, ℕ, ◌+◌, ◌<◌, ◌≤◌, Bool, true, false, List, [], ◌∷◌, length, take, drop, nat_eq, nat_lt, Option, Some}
use Rattle.std.proofs.Common.{None, refl, sym, ap, ◌∙◌, subst, arith}
use Rattle.std.specs.List.{Contains, starts_with}
use Rattle.std.proofs.lemmas.Bool.{le-ltb, lt-ltb, ltb-false, false≢true, false_from_ne_true}
use Rattle.std.proofs.lemmas.Bool.Decides.{Decides-eqb}
use Rattle.std.proofs.lemmas.Slice.Eq.{starts_is}
use Rattle.byte_text.specs.Cuts.{IsCutAt}
use Rattle.mc_text.specs.Reading.{at_line_end, line_end}
use Rattle.mc_text.proofs.Pairs.{some_pair}
use Rattle.byte_text.proofs.CutLaws.{CutsAt, cut-from_IsCutAt, cut-from_lacks, cuts_of}

-- a text whose first bytes aren't `\r\n`, and the test for that
starts_not : (tail : List ℕ) → ¬ (take 2 tail ≡ 13 ∷ 10 ∷ []) → starts_with nat_eq tail (13 ∷ 10 ∷ []) ≡ false
starts_not tail differs =
    let test = starts_with nat_eq tail (13 ∷ 10 ∷ []) in
    false_from_ne_true test (λ yes. differs (ap (take 2) ((starts_is Decides-eqb tail (13 ∷ 10 ∷ []) test refl).0 yes)))

-- less than two bytes
pub end_short : (tail : List ℕ) → length tail < 2 → line_end tail ≡ None
unfolding line_end
end_short tail few = rw (lt-ltb (length tail) 2 few) refl

-- `\r\n`
pub end_at_once : (after : List ℕ) → line_end (13 ∷ 10 ∷ after) ≡ Some (true, 2)
unfolding line_end
end_at_once after =
    let long : 2 ≤ length (13 ∷ 10 ∷ after) = omega arith in
    rw (le-ltb (length (13 ∷ 10 ∷ after)) 2 long) refl

-- other bytes without a `\n`
pub end_none : (tail : List ℕ) → 2 ≤ length tail → starts_with nat_eq tail (13 ∷ 10 ∷ []) ≡ false → ¬ (Contains tail 10)
    → line_end tail ≡ None
unfolding line_end
end_none tail long starts lacks = rw (le-ltb (length tail) 2 long, starts, cut-from_lacks 10 tail lacks) refl

-- other bytes through a `\n`
pub end_later : (tail other after : List ℕ) → 2 ≤ length tail → starts_with nat_eq tail (13 ∷ 10 ∷ []) ≡ false → IsCutAt 10 tail other after
    → line_end tail ≡ Some (false, length other + 1)
unfolding line_end
end_later tail other after long starts cut = rw (le-ltb (length tail) 2 long, starts, cut-from_IsCutAt 10 tail other after cut) refl

pub ruleset ends = (end_short, end_at_once, end_none, end_later)

-- the same by what the first bytes are not
pub end_differs : (tail other after : List ℕ) → 2 ≤ length tail → ¬ (take 2 tail ≡ 13 ∷ 10 ∷ []) → IsCutAt 10 tail other after
    → line_end tail ≡ Some (false, length other + 1)
end_differs tail other after long differs cut = end_later tail other after long (starts_not tail differs) cut

-- other bytes than `\r\n`, through the next `\n`
pub record IsLater (tail : List ℕ) (more : ℕ) : Type 0 where
  pub other : List ℕ
  pub after : List ℕ
  pub two : 2 ≤ length tail
  pub differs : ¬ (take 2 tail ≡ 13 ∷ 10 ∷ [])
  pub cut : IsCutAt 10 tail other after
  pub more_is : more ≡ length other + 1

-- what is found behind a block
abbrev pub IsEnd : List ℕ → Bool → ℕ → Type 0
IsEnd tail true more = (tail ≡ 13 ∷ 10 ∷ drop 2 tail) × (more ≡ 2)
IsEnd tail false more = IsLater tail more

-- by the tests on what stands there
end_found : (tail : List ℕ) (short starts : Bool) (cut : Option (List ℕ × List ℕ)) (ended : Bool) (more : ℕ)
    → nat_lt (length tail) 2 ≡ short → starts_with nat_eq tail (13 ∷ 10 ∷ []) ≡ starts → at_line_end tail ≡ cut
    → line_end tail ≡ Some (ended, more) → IsEnd tail ended more
unfolding line_end
end_found tail true starts cut ended more short_is starts_with_is parts_are is = let none = rw short_is at is in cc
end_found tail false true cut ended more short_is starts_with_is parts_are is =
    let found = rw (short_is, starts_with_is) at is in
    let same = some_pair true ended 2 more found in
    let text = (starts_is Decides-eqb tail (13 ∷ 10 ∷ []) true (sym starts_with_is)).0 refl in
    subst (λ b. IsEnd tail b more) same.0 (text, sym same.1)
end_found tail false false None ended more short_is starts_with_is parts_are is =
    let none = rw (short_is, starts_with_is, parts_are) at is in cc
end_found tail false false (Some parts) ended more short_is starts_with_is parts_are is =
    let found = rw (short_is, starts_with_is, parts_are) at is in
    let same = some_pair false ended (length parts.0 + 1) more found in
    let other : ¬ (take 2 tail ≡ 13 ∷ 10 ∷ []) = λ begins. false≢true (sym starts_with_is ∙ begins_is tail begins) in
    subst (λ b. IsEnd tail b more) same.0
    (record {
      other = parts.0;
      after = parts.1;
      two = ltb-false (length tail) 2 short_is;
      differs = other;
      cut = subst (CutsAt 10 tail) parts_are (cuts_of 10 tail);
      more_is = sym same.1;
    })
  where
    begins_is : (text : List ℕ) → take 2 text ≡ 13 ∷ 10 ∷ [] → starts_with nat_eq text (13 ∷ 10 ∷ []) ≡ true
    begins_is text begins = rw begins refl

-- what the reading finds
pub end_is : (tail : List ℕ) (ended : Bool) (more : ℕ) → line_end tail ≡ Some (ended, more) → IsEnd tail ended more
end_is tail ended more is =
    end_found tail (nat_lt (length tail) 2) (starts_with nat_eq tail (13 ∷ 10 ∷ [])) (at_line_end tail) ended more refl refl refl is
