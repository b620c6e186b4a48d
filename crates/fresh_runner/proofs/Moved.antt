-- The last of some items leaves its list, and what it had goes to the end of another, in which what the later ones had stands.
use Rattle.std.proofs.Common.{◌≡◌, ◌+◌, ◌≤◌, ◌++◌, ◌∷◌, [], List, ℕ, length, map, reverse, ap, sym, ◌∙◌, arith}
use Rattle.std.proofs.lemmas.List.{append_assoc, map_push, reverse-append}
use Rattle.clof_compose.proofs.Lists.{length_more}

pub moved : {X Y : Type 0} (f : X → Y) (all : List Y) (left more : List X) (x : X) (done next : List Y) → all ≡ map f left ++ reverse done
    → left ≡ more ++ x ∷ [] → next ≡ done ++ f x ∷ [] → all ≡ map f more ++ reverse next
moved f all left more x done next is last put =
    is ∙ ap (λ l. map f l ++ reverse done) last ∙ ap (λ l. l ++ reverse done) (map_push f more x)
    ∙ append_assoc (map f more) (f x ∷ []) (reverse done) ∙ ap (λ l. map f more ++ l) (sym (reverse-append done (f x ∷ [])))
    ∙ ap (λ l. map f more ++ reverse l) (sym put)

pub room_behind : {X Y : Type 0} (left more : List X) (x : X) (done next : List Y) (y : Y) (room now : ℕ) → length left + length done ≤ room
    → left ≡ more ++ x ∷ [] → next ≡ done ++ y ∷ [] → now ≡ room → length more + length next ≤ now
room_behind left more x done next y room now fits last put same =
    omega (arith, length_more more left x last, length_more done next y put, fits, same)
