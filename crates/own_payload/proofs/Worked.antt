-- What threads have made of their jobs.
use Rattle.std.proofs.Common.{◌≡◌, ℕ, ◌<◌, zero, suc, List, [], ◌∷◌, ◌++◌, length, map, get_or, refl, ap, sym, ◌∙◌, subst, arith}
use Rattle.std.proofs.Common.{Option, Some, None}
use Rattle.std.specs.Prelude.{All, slice_get, slice_index}
use Rattle.std.proofs.lemmas.List.{append-nil, length-map}
use Rattle.std.proofs.lemmas.Option.{slice_get_within, slice_get-get_or}
use Rattle.lock_rules.specs.Tag.{Tag}
use Rattle.keep_local.specs.declared.turn.Turn.{Turn}
use Rattle.keep_local.specs.States.{IsShareOf, ShareState, TrailState, all_turns, option_list}
use Rattle.keep_local.specs.Turns.{turns_of}
use Rattle.clof_compose.specs.Contexts.{Context}
use Rattle.clof_compose.specs.Courses.{course_of}
use Rattle.clof_compose.specs.Meanings.{Rest}
use Rattle.clof_compose.specs.Passes.{AreAll, IsNumber}
use Rattle.clof_compose.specs.Shares.{IsShareIn}
use Rattle.own_payload.specs.Jobs.{EachEnded, EachMadeAll, HasServed, IsEnded, IsJob, MayWork}
use Rattle.own_payload.specs.declared.jobs.Job.{Job}

-- what stands in a list that was made of another stands for an item of that
stands_for : {A B : Type 0} (f : A → B) (xs : List A) (k : ℕ) (b : B) → slice_get (map f xs) k ≡ Some b
    → (a : A) × (slice_get xs k ≡ Some a) × (f a ≡ b)
stands_for f [] k b e = absurd (cc)
stands_for f (x ∷ xs) zero b e = (x, refl, (let same : f x ≡ b = cc in same))
stands_for f (x ∷ xs) (suc k) b e = stands_for f xs k b e

module _ {P : Type 0} (rest : P → Rest) (has : Context → Type 0) (level : ℕ) (tag : Tag) where
  -- the job of a caller is one that a thread may be given
  pub may_work : (sound : Type 0) → sound → level ≡ 0 → (k : ℕ) (j : Job P) → IsJob rest has level tag k j
      → MayWork rest has sound level tag j
  may_work sound s lowest k j is = record {
    sound_is = s;
    lowest = lowest;
    job = subst (λ (n : ℕ). IsJob rest has level tag n j) (sym is.share_is.caller_is) is;
  }

  module _ (stops : ℕ → Type 0) where
    ended : (k : ℕ) (j j' : Job P) → IsJob rest has level tag k j → HasServed rest stops j j' → IsEnded rest stops has level tag k j'
    ended k j j' is served =
        let share = served.share in
        let caller : j.share.caller ≡ k = is.share_is.caller_is in record {
          job = record {
            pass_is = subst (IsNumber has level tag k) (sym served.pass) is.pass_is;
            share_is = record {
              own = ap (λ (s : ShareState). s.name) share ∙ is.share_is.own;
              caller_is = ap (λ (s : ShareState). s.caller) share ∙ caller;
              known = is.share_is.known;
              quota = ap (λ (s : ShareState). s.quota) share ∙ is.share_is.quota;
            };
          };
          made = λ on. served.ended (subst (λ (n : ℕ). ¬ stops n) (sym caller) on) ∙ sym (ap (λ (s : ShareState). s.quota) share);
        }

    -- each job that comes back is that of its caller, which has made all its turns, unless it may stop
    pub all_ended : (jobs done : List (Job P)) → length done ≡ length jobs
        → ((k : ℕ) (j : Job P) → slice_get jobs k ≡ Some j → IsJob rest has level tag k j)
        → ((k : ℕ) (j j' : Job P) → slice_get jobs k ≡ Some j → slice_get done k ≡ Some j' → HasServed rest stops j j')
        → (k : ℕ) (j' : Job P) → slice_get done k ≡ Some j' → IsEnded rest stops has level tag k j'
    all_ended jobs done many each served k j' e =
        let within = slice_get_within done k j' e in
        let at : slice_get jobs k ≡ Some (get_or jobs k j') = slice_get-get_or jobs k j' (omega (arith, within, many)) in
        ended k (get_or jobs k j') j' (each k (get_or jobs k j') at) (served k (get_or jobs k j') j' at e)

    module _ (done : List (Job P)) (count : ℕ) (many : length done ≡ count)
        (each : (k : ℕ) (j : Job P) → slice_get done k ≡ Some j → IsEnded rest stops has level tag k j) where
      -- the passes that come back are all passes
      pub passes_back : (passes : List P) → passes ≡ map (λ (j : Job P). j.pass) done
          → AreAll (λ p. (rest p).context) has level tag count passes
      passes_back passes are = record {
        all = ap length are ∙ length-map done (λ (j : Job P). j.pass) ∙ many;
        each = λ k p e.
            let found = stands_for (λ (j : Job P). j.pass) done k p (ap (λ (l : List P). slice_get l k) (sym are) ∙ e) in
            subst (λ q. IsNumber has level tag k (rest q).context) found.2 (each k found.0 found.1).job.pass_is;
      }

      module _ (shares : List ShareState) (are : shares ≡ map (λ (j : Job P). j.share) done) where
        pub shares_many : length shares ≡ count
        shares_many = ap length are ∙ length-map done (λ (j : Job P). j.share) ∙ many

        -- the shares are those of the callers
        pub shares_back : (k : ℕ) (s : ShareState) → slice_get shares k ≡ Some s → IsShareIn (course_of tag) k s
        shares_back k s e =
            let found = stands_for (λ (j : Job P). j.share) done k s (ap (λ (l : List ShareState). slice_get l k) (sym are) ∙ e) in
            subst (IsShareIn (course_of tag) k) found.2 (each k found.0 found.1).job.share_is

        -- and have made all their turns, but for those of callers that may stop
        pub shares_made : (k : ℕ) (s : ShareState) → slice_get shares k ≡ Some s → ¬ stops k → s.made ≡ s.quota
        shares_made k s e =
            let found = stands_for (λ (j : Job P). j.share) done k s (ap (λ (l : List ShareState). slice_get l k) (sym are) ∙ e) in
            subst (λ (t : ShareState). ¬ stops k → t.made ≡ t.quota) found.2 (each k found.0 found.1).made

blank : ShareState
blank = record {
  name = record { words = 0; slots = 0; views_name = 0; atom = 0; block = 0; offset = 0; slot_names = [] };
  caller = 0;
  made = 0;
  quota = 0;
}

-- where no turn is open and each share is counted, each caller has made all its turns, but for those that may stop
pub each_ended : (s : TrailState) (stops : ℕ → Type 0) (quotas : List ℕ) (shares : List ShareState) → s.current ≡ None
    → All (IsShareOf s) shares → s.quotas ≡ quotas → length shares ≡ length quotas
    → ((k : ℕ) (one : ShareState) → slice_get shares k ≡ Some one
    → (one.caller ≡ k) × (¬ stops k → one.made ≡ slice_index quotas k)) → EachEnded stops s
each_ended s stops quotas shares closed counted own many done k within on =
    let whole : all_turns s ≡ s.closed = ap (λ (o : Option Turn). s.closed ++ option_list o) closed ∙ append-nil s.closed in
    let one = get_or shares k blank in
    let same = ap length own in
    let inside : k < length shares = omega (arith, within, many, same) in
    let here = done k one (slice_get-get_or shares k blank inside) in
    let is = counted k blank inside in
    ap (turns_of k) (sym whole) ∙ ap (λ (n : ℕ). turns_of n (all_turns s)) (sym here.0) ∙ sym is.made ∙ here.1 on
    ∙ ap (λ (l : List ℕ). slice_index l k) (sym own)

-- where none may stop, each has
pub all_made : (s : TrailState) → EachEnded (λ _. ⊥) s → EachMadeAll s
all_made s ended k within = ended k within (λ e. e)
