-- What the store has under a drill's keys, command by command.
use Rattle.std.proofs.Common.{
  ◌≡◌,
  ℕ,
  ◌+◌,
  ◌%◌,
  ◌^◌,
  ◌<◌,
  ◌≤◌,
  ◌⊎◌,
  Bool,
  true,
  false,
  cond,
  List,
  [],
  ◌∷◌,
  ◌++◌,
  length,
  Option,
  Some,
  None,
  inl,
  inr,
  refl,
  sym,
  ap,
  ◌∙◌,
  subst,
  arith,
}
use Rattle.std.specs.Prelude.{codes, decimal, ◌==◌, sum_by}
use Rattle.std.specs.Option.{option_map_or}
use Rattle.std.specs.FinMap.{empty, get, insert, get-empty, get-insert}
use Rattle.std.specs.Cmp.Lexicographic.{slice_cmp}
use Rattle.std.specs.Ordering.{nat_cmp}
use Rattle.std.proofs.lemmas.Bool.{cases_Bool, cases_order, eq-eqb, eqb-true, le-leb}
use Rattle.std.proofs.lemmas.Cmp.{nat_list_cmp_total}
use Rattle.std.proofs.lemmas.Fmt.{decimal_digit, decimal_is_IsNumeral, length-decimal-le}
use Rattle.std.proofs.lemmas.List.{length-append}
use Rattle.std.proofs.lemmas.List.Sums.{sum_by_push}
use Rattle.byte_text.proofs.NumeralLaws.{below_limit}
use Rattle.mc_text.specs.declared.command.How.TheVariants.{Add}
use Rattle.mc_text.specs.Begins.{storing}
use Rattle.mc_text.specs.Request.{Count, Request, WholeCommand}
use Rattle.kv_history.specs.declared.expiry.Expiry.TheVariants.{Never}
use Rattle.kv_history.specs.Answer.{counted, counting, line, number_of, renumbered, storage, store_after}
use Rattle.kv_history.specs.Contents.{Contents, Item, Items, empty_store}
use Rattle.kv_history.specs.Dues.{is_same_key}
use Rattle.kv_history.specs.Log.{Logged, applied_entry, own, store_now}
use Rattle.kv_history.proofs.Logs.{own-push, store_now-applied}
use Rattle.drill_text.specs.Drill.{delta, key_name}
use Rattle.drill_text.proofs.Lines.{by_key, name_is, opening_header, short_name}
use Rattle.drill_text.proofs.Readings.{addition_command, opening_command}

-- ---- names of keys

same_short : (i : ℕ) → i < 8 → (k : ℕ) → k < 8 → is_same_key (short_name i) (short_name k) ≡ (i == k)
same_short =
    by_key (λ i. (k : ℕ) → k < 8 → is_same_key (short_name i) (short_name k) ≡ (i == k))
    (by_key (λ k. is_same_key (short_name 0) (short_name k) ≡ (0 == k)) refl refl refl refl refl refl refl refl)
    (by_key (λ k. is_same_key (short_name 1) (short_name k) ≡ (1 == k)) refl refl refl refl refl refl refl refl)
    (by_key (λ k. is_same_key (short_name 2) (short_name k) ≡ (2 == k)) refl refl refl refl refl refl refl refl)
    (by_key (λ k. is_same_key (short_name 3) (short_name k) ≡ (3 == k)) refl refl refl refl refl refl refl refl)
    (by_key (λ k. is_same_key (short_name 4) (short_name k) ≡ (4 == k)) refl refl refl refl refl refl refl refl)
    (by_key (λ k. is_same_key (short_name 5) (short_name k) ≡ (5 == k)) refl refl refl refl refl refl refl refl)
    (by_key (λ k. is_same_key (short_name 6) (short_name k) ≡ (6 == k)) refl refl refl refl refl refl refl refl)
    (by_key (λ k. is_same_key (short_name 7) (short_name k) ≡ (7 == k)) refl refl refl refl refl refl refl refl)

pub same_names : (i k : ℕ) → i < 8 → k < 8 → is_same_key (key_name i) (key_name k) ≡ (i == k)
same_names i k small few =
    ap (λ (name : List ℕ). is_same_key name (key_name k)) (name_is i small)
    ∙ ap (λ (name : List ℕ). is_same_key (short_name i) name) (name_is k few)
    ∙ same_short i small k few

-- ---- an item under a key

inserted_same : (items : Items) (k : ℕ) (item : Item) → k < 8 → get (insert items (key_name k) item) (key_name k) ≡ Some item
inserted_same items k item small =
    get-insert nat_list_cmp_total items (key_name k) item (key_name k)
    ∙ ap (λ b. cond b (Some item) (get items (key_name k))) (same_names k k small small ∙ eq-eqb k k refl)

inserted_other : (items : Items) (i k : ℕ) (item : Item) → i < 8 → k < 8 → (k == i) ≡ false
    → get (insert items (key_name i) item) (key_name k) ≡ get items (key_name k)
inserted_other items i k item small few differs =
    get-insert nat_list_cmp_total items (key_name i) item (key_name k)
    ∙ ap (λ b. cond b (Some item) (get items (key_name k))) (same_names k i few small ∙ differs)

-- a store has the digits of a sum under a key; a number goes round at 2^64
pub record Holds (store : Contents) (key sum : ℕ) : Type 0 where
  pub unique : ℕ
  pub there : get store.items (key_name key)
      ≡ Some (record { flags = 0; expiry = Never; block = decimal (sum % 2 ^ 64); unique = unique })

-- or the key is absent, and nothing was added
abbrev pub MayHold : Contents → ℕ → ℕ → Type 0
MayHold store key sum = Holds store key sum ⊎ ((get store.items (key_name key) ≡ None) × (sum ≡ 0))

-- the same item there, in another store
moved : (old new : Contents) (key sum : ℕ) → get new.items (key_name key) ≡ get old.items (key_name key) → Holds old key sum
    → Holds new key sum
moved old new key sum same holds = record { unique = holds.unique; there = same ∙ holds.there }

missing : (store : Contents) (key sum : ℕ) → Holds store key sum → get store.items (key_name key) ≡ None → ⊥
missing store key sum holds none = let there = holds.there in cc

-- ---- a key is opened

abbrev after_opening : Contents → ℕ → Contents
after_opening store key = store_after store (opening_command key).request

opening_absent : (store : Contents) (key : ℕ) → get store.items (key_name key) ≡ None
    → (after_opening store key).items
    ≡ insert store.items (key_name key) (record { flags = 0; expiry = Never; block = 48 ∷ []; unique = store.next_unique })
opening_absent store key none =
    ap (λ (found : Option Item). (storage store (storing (opening_header key) (48 ∷ [])) Add found).store.items) none

opening_present : (store : Contents) (key : ℕ) (item : Item) → get store.items (key_name key) ≡ Some item
    → after_opening store key ≡ store
opening_present store key item is =
    ap (λ (found : Option Item). (storage store (storing (opening_header key) (48 ∷ [])) Add found).store) is

-- what another key has stays
opening_other : (store : Contents) (key k : ℕ) → key < 8 → k < 8 → (k == key) ≡ false
    → get (after_opening store key).items (key_name k) ≡ get store.items (key_name k)
opening_other store key k small few differs = chosen (get store.items (key_name key)) refl
  where
    chosen : (found : Option Item) → get store.items (key_name key) ≡ found
        → get (after_opening store key).items (key_name k) ≡ get store.items (key_name k)
    chosen None none = ap (λ (items : Items). get items (key_name k)) (opening_absent store key none)
        ∙ inserted_other store.items key k _ small few differs
    chosen (Some item) is = ap (λ (after : Contents). get after.items (key_name k)) (opening_present store key item is)

keeps_opening : (store : Contents) (key k sum : ℕ) → key < 8 → k < 8 → Holds store k sum → Holds (after_opening store key) k sum
keeps_opening store key k sum small few holds =
    elim (cases_Bool (k == key)) [
      | inl same ↦
          let is : k ≡ key = eqb-true k key same in
          let there = ap (λ (n : ℕ). get store.items (key_name n)) (sym is) ∙ holds.there in
          subst (λ (after : Contents). Holds after k sum) (sym (opening_present store key _ there)) holds
      | inr differs ↦ moved store (after_opening store key) k sum (opening_other store key k small few differs) holds
    ]

opens : (store : Contents) (key sum : ℕ) → key < 8 → MayHold store key sum → Holds (after_opening store key) key sum
opens store key sum small (inl holds) = keeps_opening store key key sum small small holds
opens store key sum small (inr none) =
    let zero_left : sum % 2 ^ 64 ≡ 0 = omega (arith, none.1) in
    record {
      unique = store.next_unique;
      there =
          ap (λ (items : Items). get items (key_name key)) (opening_absent store key none.0)
          ∙ inserted_same store.items key _ small
          ∙ ap (λ (block : List ℕ). Some (record { flags = 0; expiry = Never; block = block; unique = store.next_unique }))
          (sym (ap decimal zero_left ∙ decimal_digit 0 (omega arith)));
    }

may_opening : (store : Contents) (key k sum : ℕ) → key < 8 → k < 8 → MayHold store k sum → MayHold (after_opening store key) k sum
may_opening store key k sum small few (inl holds) = inl (keeps_opening store key k sum small few holds)
may_opening store key k sum small few (inr none) =
    elim (cases_Bool (k == key)) [
      | inl same ↦
          inl (subst (λ (n : ℕ). Holds (after_opening store n) k sum) (eqb-true k key same) (opens store k sum few (inr none)))
      | inr differs ↦ inr (opening_other store key k small few differs ∙ none.0, none.1)
    ]

-- ---- a number is added

number_is : (n : ℕ) → n < 2 ^ 64 → number_of (decimal n) ≡ Some n
number_is n small =
    let numeral = decimal_is_IsNumeral n small in
    let short = le-leb (length (decimal n)) 20 (length-decimal-le 20 n (omega arith) (omega (arith, small)) small) in
    rw (short, below_limit (2 ^ 64) n (decimal n) numeral.0 numeral.1 small) refl

abbrev after_addition : Contents → ℕ → ℕ → Contents
after_addition store key more = store_after store (Count true (key_name key) more true)

addition_items : (store : Contents) (key sum more : ℕ) → Holds store key sum
    → (after_addition store key more).items
    ≡ insert store.items (key_name key)
    (record { flags = 0; expiry = Never; block = decimal ((sum + more) % 2 ^ 64); unique = store.next_unique })
addition_items store key sum more holds =
    let item : Item = record { flags = 0; expiry = Never; block = decimal (sum % 2 ^ 64); unique = holds.unique } in
    let round : (sum % 2 ^ 64 + more) % 2 ^ 64 ≡ (sum + more) % 2 ^ 64 = omega arith in
    ap (λ (found : Option Item). (counting store true (key_name key) more found).store.items) holds.there
    ∙ ap (λ (read : Option ℕ). (option_map_or (λ (number : ℕ). renumbered store (key_name key) item (counted true number more)) read
    (line (codes "CLIENT_ERROR cannot increment or decrement non-numeric value") store)).store.items)
    (number_is (sum % 2 ^ 64) (omega arith))
    ∙ ap (λ (n : ℕ). insert store.items (key_name key)
    (record { flags = 0; expiry = Never; block = decimal n; unique = store.next_unique })) round

-- what an addition to a key makes of the sum of another
abbrev added : ℕ → ℕ → ℕ → ℕ → ℕ
added sum key k more = sum + cond (is_same_key (key_name key) (key_name k)) more 0

added_same : (sum k more : ℕ) → k < 8 → added sum k k more ≡ sum + more
added_same sum k more small =
    ap (λ b. sum + cond b more 0) (same_names k k small small ∙ eq-eqb k k refl)

flipped : (k key : ℕ) → (k == key) ≡ false → (key == k) ≡ false
flipped k key differs = grind arith

added_other : (sum key k more : ℕ) → key < 8 → k < 8 → (k == key) ≡ false → added sum key k more ≡ sum
added_other sum key k more small few differs =
    let none : cond (is_same_key (key_name key) (key_name k)) more 0 ≡ 0 =
    ap (λ b. cond b more 0) (same_names key k small few ∙ flipped k key differs) in
    omega (arith, none)

addition_other : (store : Contents) (key k sum more : ℕ) → key < 8 → k < 8 → (k == key) ≡ false → Holds store key sum
    → get (after_addition store key more).items (key_name k) ≡ get store.items (key_name k)
addition_other store key k sum more small few differs holds =
    ap (λ (items : Items). get items (key_name k)) (addition_items store key sum more holds)
    ∙ inserted_other store.items key k _ small few differs

adds : (store : Contents) (k sum more : ℕ) → k < 8 → Holds store k sum → Holds (after_addition store k more) k (added sum k k more)
adds store k sum more small holds = record {
  unique = store.next_unique;
  there =
      ap (λ (items : Items). get items (key_name k)) (addition_items store k sum more holds)
      ∙ inserted_same store.items k _ small
      ∙ ap (λ (n : ℕ). Some (record { flags = 0; expiry = Never; block = decimal (n % 2 ^ 64); unique = store.next_unique }))
      (sym (added_same sum k more small));
}

keeps_addition : (store : Contents) (key k sum there more : ℕ) → key < 8 → k < 8 → Holds store key there → Holds store k sum
    → Holds (after_addition store key more) k (added sum key k more)
keeps_addition store key k sum there more small few held holds =
    elim (cases_Bool (k == key)) [
      | inl same ↦ subst (λ (n : ℕ). Holds (after_addition store n more) k (added sum n k more)) (eqb-true k key same)
          (adds store k sum more few holds)
      | inr differs ↦ subst (Holds (after_addition store key more) k) (sym (added_other sum key k more small few differs))
          (moved store (after_addition store key more) k sum (addition_other store key k there more small few differs held) holds)
    ]

may_addition : (store : Contents) (key k sum there more : ℕ) → key < 8 → k < 8 → Holds store key there → MayHold store k sum
    → MayHold (after_addition store key more) k (added sum key k more)
may_addition store key k sum there more small few held (inl holds) = inl (keeps_addition store key k sum there more small few held holds)
may_addition store key k sum there more small few held (inr none) =
    elim (cases_Bool (k == key)) [
      | inl same ↦ absurd (missing store key there held
          (ap (λ (n : ℕ). get store.items (key_name n)) (sym (eqb-true k key same)) ∙ none.0))
      | inr differs ↦ inr (
        addition_other store key k there more small few differs held ∙ none.0,
        added_other sum key k more small few differs ∙ none.1,
      )
    ]

-- ---- the entries so far

-- what a request adds to the number of a key
abbrev pub added_by : List ℕ → Request → ℕ
added_by key (Count true other more quiet) = cond (is_same_key other key) more 0
added_by key _ = 0

abbrev pub total : ℕ → List Logged → ℕ
total key entries = sum_by (λ entry. added_by (key_name key) entry.command.request) entries

-- Each key is absent or has what was added to it, and those that some caller has opened are there. A caller opens them in order,
-- before it adds
pub record Counted (entries : List Logged) : Type 0 where
  pub each : (k : ℕ) → k < 8 → MayHold (store_now entries) k (total k entries)
  pub opened : (w k : ℕ) → k < 8 → k < length (own entries w) → Holds (store_now entries) k (total k entries)

pub counted_none : Counted []
counted_none = record {
  each = λ k small. inr (get-empty (slice_cmp nat_cmp) (key_name k), refl);
  opened = λ w k small within. absurd (omega (arith, within));
}

-- how many own commands a caller has behind one entry more
pub own_more : (entries : List Logged) (entry : Logged) (w : ℕ)
    → length (own (entries ++ entry ∷ []) w) ≡ length (own entries w) + cond (entry.caller == w) 1 0
own_more entries entry w =
    ap length (own-push entries entry w)
    ∙ length-append (own entries w) (cond (entry.caller == w) (entry.command ∷ []) [])
    ∙ ap (λ (n : ℕ). length (own entries w) + n) (one (entry.caller == w))
  where
    one : (b : Bool) → length (cond b (entry.command ∷ []) []) ≡ cond b 1 0
    one true = refl
    one false = refl

total_more : (k : ℕ) (entries : List Logged) (entry : Logged)
    → total k (entries ++ entry ∷ []) ≡ total k entries + added_by (key_name k) entry.command.request
total_more k entries entry = sum_by_push (λ (e : Logged). added_by (key_name k) e.command.request) entries entry

-- what is said of a store and a sum, behind one entry more
pushed : (P : Contents → ℕ → Type 0) (k : ℕ) (entries : List Logged) (w : ℕ) (command : WholeCommand)
    → P (store_after (store_now entries) command.request) (total k entries + added_by (key_name k) command.request)
    → P (store_now (entries ++ applied_entry entries w command ∷ [])) (total k (entries ++ applied_entry entries w command ∷ []))
pushed P k entries w command is =
    subst (λ (store : Contents). P store (total k (entries ++ applied_entry entries w command ∷ [])))
    (sym (store_now-applied entries w command))
    (subst (P (store_after (store_now entries) command.request)) (sym (total_more k entries (applied_entry entries w command))) is)

module _ (entries : List Logged) (w : ℕ) (so_far : Counted entries) where
  opening_total : (k : ℕ) → total k entries ≡ total k entries + 0
  opening_total k = omega arith

  -- a caller that has opened the keys before it opens the next one
  pub counted_opening : (key : ℕ) → key < 8 → length (own entries w) ≡ key
      → Counted (entries ++ applied_entry entries w (opening_command key) ∷ [])
  counted_opening key small place = record {
    each =
        λ k few. pushed (λ store sum. MayHold store k sum) k entries w (opening_command key)
        (subst (MayHold (after_opening (store_now entries) key) k) (opening_total k)
        (may_opening (store_now entries) key k (total k entries) small few (so_far.each k few)));
    opened =
        λ other k few within. pushed (λ store sum. Holds store k sum) k entries w (opening_command key)
        (subst (Holds (after_opening (store_now entries) key) k) (opening_total k) (behind other k few within));
  }
    where
      before : (other k : ℕ) → k < 8 → k < length (own entries other) → Holds (after_opening (store_now entries) key) k (total k entries)
      before other k few within =
          keeps_opening (store_now entries) key k (total k entries) small few (so_far.opened other k few within)

      behind : (other k : ℕ) → k < 8 → k < length (own (entries ++ applied_entry entries w (opening_command key) ∷ []) other)
          → Holds (after_opening (store_now entries) key) k (total k entries)
      behind other k few within =
          let more = own_more entries (applied_entry entries w (opening_command key)) other in
          elim (cases_Bool (w == other)) [
            | inl same ↦
                let one : cond {A = ℕ} (w == other) 1 0 ≡ 1 = ap (λ b. cond b 1 0) same in
                let own_is : length (own entries other) ≡ key =
                ap (λ (n : ℕ). length (own entries n)) (sym (eqb-true w other same)) ∙ place in
                elim (cases_order k key) [
                  | inl is ↦ subst (λ (n : ℕ). Holds (after_opening (store_now entries) key) n (total n entries)) (sym is)
                      (opens (store_now entries) key (total key entries) small (so_far.each key small))
                  | inr apart ↦ elim apart [
                    | inl less ↦ before other k few (omega (arith, own_is, less))
                    | inr above ↦ absurd (omega (arith, within, more, one, own_is, above))
                  ]
                ]
            | inr differs ↦
                let none : cond {A = ℕ} (w == other) 1 0 ≡ 0 = ap (λ b. cond b 1 0) differs in
                before other k few (omega (arith, within, more, none))
          ]

  -- a caller that has opened all keys adds to one
  pub counted_addition : (drill j : ℕ) → 8 ≤ length (own entries w)
      → Counted (entries ++ applied_entry entries w (addition_command drill j) ∷ [])
  counted_addition drill j place =
      let key : j % 8 < 8 = omega arith in
      let held = so_far.opened w (j % 8) key (omega (arith, place, key)) in
      record {
        each =
            λ k few. pushed (λ store sum. MayHold store k sum) k entries w (addition_command drill j)
            (may_addition (store_now entries) (j % 8) k (total k entries) (total (j % 8) entries) (delta drill j) key few held
            (so_far.each k few));
        opened =
            λ other k few within. pushed (λ store sum. Holds store k sum) k entries w (addition_command drill j)
            (keeps_addition (store_now entries) (j % 8) k (total k entries) (total (j % 8) entries) (delta drill j) key few held
            (so_far.opened w k few (omega (arith, place, few))));
      }
