-- What a holder knows.
use Rattle.std.proofs.Common.{◌≡◌, ℕ, ◌+◌, ◌^◌, ◌<◌, ◌++◌, [], ◌∷◌, List, length, ap, sym, ◌∙◌, subst, arith, Option, Some, None}
use Rattle.std.proofs.Common.{length-append, refl, true}
use Rattle.std.specs.Prelude.{All, IsSome, slice_get, ◌==◌}
use Rattle.std.proofs.lemmas.Bool.{eq-eqb}
use Rattle.std.proofs.lemmas.List.Sums.{sum_by-append, sum_by-cons}
use Rattle.std.proofs.lemmas.List.{length-map}
use Rattle.std.proofs.lemmas.List.Elements.{All-head, All-nil, All-tail, All-cons}
use Rattle.lock_rules.specs.Tag.{Tag}
use Rattle.lock_rules.specs.Trees.{lists_in, tree_of_lists}
use Rattle.lock_rules.proofs.Trees.{lists_in-tree_of_lists}
use Rattle.keep_local.specs.declared.turn.Turn.{Turn}
use Rattle.keep_local.specs.Shapes.{callers_of}
use Rattle.keep_local.specs.States.{IsTrail, ShareState, TrailState, all_turns, callers_in, option_list}
use Rattle.keep_local.specs.Turns.{turns_of}
use Rattle.keep_local.specs.Views.{times}
use Rattle.keep_local.proofs.Counts.{one_if}
use Rattle.keep_local.proofs.Trails.{times_callers}
use Rattle.clof_compose.specs.Calls.{HasOpened}
use Rattle.clof_compose.specs.Courses.{course_of}
use Rattle.clof_compose.specs.declared.root.Root.{Root}
use Rattle.fresh_root.specs.States.{calls_while, no_caller}
use Rattle.mc_text.specs.Request.{WholeCommand}
use Rattle.mc_text.specs.Reading.{commands_of}
use Rattle.kv_history.specs.Log.{Log, IsNext, calls}
use Rattle.threaded_runner.specs.Jobs.{IsCommandAt}
use Rattle.fresh_runner.specs.Books.{book_in, fresh_book_calls, fresh_book_tag}
use Rattle.fresh_runner.specs.declared.book.FreshBook.{FreshBook}
use Rattle.fresh_runner.proofs.Tags.{book_is, recorded_is}

below_all : (xs ys : List ℕ) (x : ℕ) → All (λ n. n < no_caller) (xs ++ x ∷ ys) → x < no_caller
below_all [] ys x all = All-head (λ n. n < no_caller) x ys all
below_all (y ∷ xs) ys x all = below_all xs ys x (All-tail (λ n. n < no_caller) y (xs ++ x ∷ ys) all)

-- where the calls are those of callers, the payload is in
pub is_home : {P : Type 0} (payload : Option P) (list callers : List ℕ) → calls_while payload list ≡ callers
    → All (λ n. n < no_caller) callers → IsSome payload × (list ≡ callers)
is_home None list callers e all =
    absurd (let less = below_all list [] no_caller (subst (λ (l : List ℕ). All (λ n. n < no_caller) l) (sym e) all) in omega (arith, less))
is_home (Some p) list callers e all = (refl, e)

known_below : (turns : List Turn) (n : ℕ) → n < 2 ^ 32 → All (λ (t : Turn). t.caller < n) turns → All (λ k. k < no_caller)
    (callers_in turns)
known_below [] n few all = All-nil (λ k. k < no_caller)
known_below (t ∷ turns) n few all =
    let head = All-head (λ (u : Turn). u.caller < n) t turns all in
    All-cons (λ k. k < no_caller) t.caller (callers_in turns) (omega (arith, head, few))
    (known_below turns n few (All-tail (λ (u : Turn). u.caller < n) t turns all))

front_of : {A : Type 0} (Q : A → Type 0) (xs ys : List A) → All Q (xs ++ ys) → All Q xs
front_of Q [] ys all = All-nil Q
front_of Q (x ∷ xs) ys all = All-cons Q x xs (All-head Q x (xs ++ ys) all) (front_of Q xs ys (All-tail Q x (xs ++ ys) all))

-- the callers of a trail's closed turns are numbers of callers
pub callers_below : (s : TrailState) → IsTrail s → All (λ k. k < no_caller) (callers_in s.closed)
callers_below s is =
    known_below s.closed (callers_of s.shape) is.few
    (front_of (λ (t : Turn). t.caller < callers_of s.shape) s.closed (option_list s.current) is.known)

-- what is next by the tag and the history is next for the journal that is lent out
pub next_in : (tag : Tag) (list : List ℕ) (log : Log) (caller caller' : ℕ) (command : WholeCommand) → tree_of_lists log.sections ≡ tag
    → calls log ≡ list → caller' ≡ caller → IsNext (lists_in tag) list caller command → IsNext log.sections (calls log) caller' command
next_in tag list log caller caller' command sections are same next =
    let told : lists_in tag ≡ log.sections = sym (ap lists_in sections) ∙ lists_in-tree_of_lists log.sections in
    subst (λ (n : ℕ). IsNext log.sections (calls log) n command) (sym same)
    (subst (λ (l : List ℕ). IsNext log.sections l caller command) (sym are)
    (subst (λ (l : List (List ℕ)). IsNext l list caller command) told next))

-- a caller's turns with one more of it
one_more : (caller : ℕ) (turns : List Turn) (t : Turn) → t.caller ≡ caller → turns_of caller (turns ++ t ∷ []) ≡ turns_of caller turns + 1
one_more caller turns t own =
    let yes : (t.caller == caller) ≡ true = eq-eqb t.caller caller own in
    let cut = sum_by-append (λ (u : Turn). one_if (u.caller == caller)) turns (t ∷ []) in
    let last = sum_by-cons (λ (u : Turn). one_if (u.caller == caller)) t [] in
    let one : one_if (t.caller == caller) ≡ 1 = ap one_if yes in
    omega (arith, cut, last, one)

module _ (t : Tag) (level made : ℕ) (share : ShareState) (r : Root FreshBook)
    (opened : HasOpened fresh_book_calls fresh_book_tag t level share r) where
  home : IsSome r.payload.fresh.payload × (r.payload.fresh.list ≡ callers_in r.trail.closed)
  home = is_home r.payload.fresh.payload r.payload.fresh.list (callers_in r.trail.closed) opened.calls_are (callers_below r.trail
      opened.trail)

  all_are : all_turns r.trail ≡ r.trail.closed ++ opened.is_open.turn ∷ []
  all_are = ap (λ (o : Option Turn). r.trail.closed ++ option_list o) opened.is_open.now

  -- the book is in
  pub book_home : IsSome r.payload.fresh.payload
  book_home = home.0

  -- the history has the calls of the root
  pub list_is : fresh_book_calls r.payload ≡ r.payload.fresh.list
  list_is = opened.calls_are ∙ sym home.1

  -- and fewer than a number of 32 bits can count, with the one that is added, where the trail keeps its turns in memory
  pub few_calls : (course_of t).recorded ≡ true → length r.payload.fresh.list + 1 < 2 ^ 32
  few_calls recorded =
      let list = ap length home.1 ∙ length-map r.trail.closed (λ (u : Turn). u.caller) in
      let all = ap length all_are ∙ length-append r.trail.closed (opened.is_open.turn ∷ []) in
      let room = opened.trail.room in
      let fits = opened.trail.recordable (recorded_is t r opened.tagged recorded) in omega (arith, list, all, room, fits)

  module _ (more : share.made ≡ made + 1) where
    -- the caller has made as many calls as turns before
    pub calls_made : times share.caller r.payload.fresh.list ≡ made
    calls_made =
        let turn = opened.is_open.turn in
        let count = opened.share_is.made ∙ ap (turns_of share.caller) all_are
        ∙ one_more share.caller r.trail.closed turn opened.is_open.caller_is in
        let called = ap (times share.caller) home.1 ∙ times_callers share.caller r.trail.closed in
        omega (arith, count, called, more)

    -- the command at the place of the turns made before is the one that the journal takes next
    pub takes_next : (command : WholeCommand) → IsCommandAt (book_in (course_of t).payload) share.caller made command
        → IsNext (lists_in r.payload.fresh.tag) r.payload.fresh.list share.caller command
    takes_next command at = record {
      section = at.section;
      place = ap (λ (b : Tag). slice_get (lists_in b) share.caller) (sym (book_is t r opened.tagged)) ∙ at.is_section;
      next = ap (λ (n : ℕ). slice_get (commands_of at.section) n) calls_made ∙ at.is_command;
    }
