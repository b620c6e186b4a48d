-- What is known of a root whose lock was taken apart.
use Rattle.std.proofs.Common.{◌≡◌, ℕ, ◌∙◌, Bool, true, false, not, List, ap, sym, refl, subst}
use Rattle.std.specs.Prelude.{IfSome, IsSome, ◌||◌}
use Rattle.lock_rules.specs.Trees.{lists_in, tree_of_lists}
use Rattle.lock_rules.specs.Tag.{Tag}
use Rattle.lock_rules.proofs.Trees.{lists_in-tree_of_lists}
use Rattle.keep_local.specs.Shapes.{top_of}
use Rattle.keep_local.specs.States.{IsTrail, TrailState, callers_in}
use Rattle.keep_local.specs.Turns.{last_turn}
use Rattle.clof_compose.specs.Roots.{IsFit}
use Rattle.clof_compose.specs.declared.root.Root.{Root}
use Rattle.threaded_runner.specs.Books.{book_calls}
use Rattle.threaded_runner.specs.declared.book.Book.{Book}
use Rattle.fresh_runner.specs.Books.{fresh_book_calls}
use Rattle.fresh_runner.specs.declared.book.FreshBook.{FreshBook}
use Rattle.fresh_runner.proofs.Holders.{callers_below, is_home}

-- its book is in, and the history has the callers of all turns
pub settled_home : (root : Root FreshBook) → IsFit fresh_book_calls root
    → IsSome root.payload.fresh.payload × (root.payload.fresh.list ≡ callers_in root.trail.closed)
settled_home root fit =
    is_home root.payload.fresh.payload root.payload.fresh.list (callers_in root.trail.closed) fit.settled.calls_are
    (callers_below root.trail fit.settled.trail)

-- the root with the book alone is fit too
pub fit_book : (root : Root FreshBook) (r : Root Book) → IsFit fresh_book_calls root → r.trail ≡ root.trail
    → book_calls r.payload ≡ root.payload.fresh.list → IsFit book_calls r
fit_book root r fit trail are = record {
  settled = record {
    trail = subst IsTrail (sym trail) fit.settled.trail;
    closed = ap (λ (s : TrailState). s.current) trail ∙ fit.settled.closed;
    calls_are = are ∙ (settled_home root fit).1 ∙ ap (λ (s : TrailState). callers_in s.closed) (sym trail);
  };
  left = subst (λ (s : TrailState). IfSome (last_turn s.closed) (λ t. t.left ≡ top_of s.shape)) (sym trail) fit.left;
}

-- the sections that a tag tells
pub sections_in : (tag : Tag) (sections : List (List ℕ)) → tree_of_lists sections ≡ tag → lists_in tag ≡ sections
sections_in tag sections e = sym (ap lists_in e) ∙ lists_in-tree_of_lists sections

-- a run that wasn't refused has started
pub has_started : (started any refused : Bool) → refused ≡ (not started || any) → refused ≡ false → started ≡ true
has_started true any refused e fine = refl
has_started false any refused e fine = absurd (let no = sym fine ∙ e in cc)
