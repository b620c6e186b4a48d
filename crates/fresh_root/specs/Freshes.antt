-- What a Fresh keeps.
use Rattle.std.specs.Prelude.{◌≡◌, ℕ, List, Option, IfSome, refl}
use Rattle.std.specs.Coded.{Coded, code_by, coded×, coded_ℕ, coded_list, coded_option}
use Rattle.atomic_table.specs.Seated.{TableId, table_id_coded}
use Rattle.lock_rules.specs.Tag.{Tag, tag_code}
use Rattle.fresh_root.specs.States.{HistoryState, FreshState}

module _ {P : Type 0} where
  abbrev pub fresh_code : Coded P → Coded (FreshState P)
  fresh_code code =
      code_by (TableId × (ℕ × (List ℕ × (Tag × Option P))))
      (coded× table_id_coded (coded× coded_ℕ (coded× (coded_list coded_ℕ) (coded× tag_code (coded_option code)))))
      (λ f. (f.name, (f.tokens, (f.list, (f.tag, f.payload)))))
      (λ t. record { name = t.0; tokens = t.1.0; list = t.1.1.0; tag = t.1.1.1.0; payload = t.1.1.1.1 })
      (λ _. refl)

module _ {P : Type 0} (tag : P → Tag) where
  -- `first` is the payload as it was at the start
  abbrev pub fresh_state : Option P → P → HistoryState → FreshState P
  fresh_state payload first history =
      record { name = history.name; tokens = history.tokens; list = history.list; tag = tag first; payload = payload }

module _ {P : Type 0} (calls : P → List ℕ) (tag : P → Tag) where
  -- a payload that is in has the calls of the history, and the tag of the first
  pub record IsKeptAs (first : P) (history : List ℕ) (payload : P) : Type 0 where
    pub calls_are : calls payload ≡ history
    pub tag_is : tag payload ≡ tag first

  abbrev pub IsKept : Option P → P → HistoryState → Type 0
  IsKept payload first history = IfSome payload (IsKeptAs first history.list)
