-- What a token, a history and a Fresh are seen as.
use Rattle.std.specs.Prelude.{◌≡◌, ℕ, List, [], ◌∷◌, ◌++◌, length, slice_get, Option, None, Some}
use Rattle.atomic_table.specs.Seated.{TableId}
use Rattle.lock_rules.specs.Tag.{Tag, leaf, fork}
use Rattle.lock_rules.specs.Views.{tree_of}

-- the name of the Fresh that it belongs to, its caller, and the calls that it last saw
pub record SeenState : Type 0 where
  pub fresh : TableId
  pub caller : ℕ
  pub list : List ℕ

-- what tells its table from all others, how many tokens it gave, and the callers of all calls, in order
pub record HistoryState : Type 0 where
  pub name : TableId
  pub tokens : ℕ
  pub list : List ℕ

-- beside these the payload, while it is in, and the tag of the payload
pub record FreshState (P : Type 0) : Type 0 where
  pub name : TableId
  pub tokens : ℕ
  pub list : List ℕ
  pub tag : Tag
  pub payload : Option P

-- no caller has this number
abbrev pub no_caller : ℕ
no_caller = 4294967295

-- the calls of a payload that is in are the history. While it is out, a number follows them that is no caller's
abbrev pub calls_while : {P : Type 0} → Option P → List ℕ → List ℕ
calls_while (Some p) history = history
calls_while None history = history ++ no_caller ∷ []

abbrev pub fresh_calls : {P : Type 0} → FreshState P → List ℕ
fresh_calls f = calls_while f.payload f.list

-- a name written as a tree
abbrev pub tree_of_name : TableId → Tag
tree_of_name z = tree_of (z.words ∷ z.slots ∷ z.views_name ∷ z.atom ∷ z.block ∷ z.offset ∷ z.slot_names)

-- which Fresh it is, how many tokens it gave, and the tag of its payload
abbrev pub fresh_tag : {P : Type 0} → FreshState P → Tag
fresh_tag f = fork (tree_of_name f.name) (fork (leaf f.tokens) f.tag)

-- the token of a caller of the Fresh
pub record IsOf (fresh : TableId) (caller : ℕ) (s : SeenState) : Type 0 where
  pub fresh_is : s.fresh ≡ fresh
  pub caller_is : s.caller ≡ caller

-- all tokens of the Fresh, in the order of their callers
pub record AreAll (fresh : TableId) (tokens : ℕ) (seens : List SeenState) : Type 0 where
  pub all : length seens ≡ tokens
  pub each : (k : ℕ) (s : SeenState) → slice_get seens k ≡ Some s → IsOf fresh k s
