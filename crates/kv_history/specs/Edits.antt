-- Changes of an item.
use Rattle.std.specs.Prelude.{ℕ, List, ◌++◌, Bool, Option, None, Some, codes, decimal, option_map, if◌then◌else◌}
use Rattle.std.specs.Option.{option_map_or}
use Rattle.std.specs.FinMap as map
use Rattle.kv_history.specs.declared.item.Edit.{Edit}
use Rattle.kv_history.specs.declared.item.Edit.TheVariants.{Whole, Join}
use Rattle.kv_history.specs.declared.item.Counting.{Counting}
use Rattle.kv_history.specs.declared.item.Counting.TheVariants.{Absent as Missing, NotNumber, Number}
use Rattle.kv_history.specs.declared.item.Side.{Side}
use Rattle.kv_history.specs.declared.item.Side.TheVariants.{Front, Back}
use Rattle.kv_history.specs.declared.expiry.Expiry.{Expiry}
use Rattle.kv_history.specs.declared.table.Found.{Found}
use Rattle.kv_history.specs.declared.table.Found.TheVariants.{Absent, Alike, Other}
use Rattle.kv_history.specs.Expiry.{same_expiry}
use Rattle.kv_history.specs.Contents.{Item, Items, Contents}
use Rattle.kv_history.specs.Answer.{Answer, line, joined, counted, number_of}

-- more bytes on a side of a block
abbrev pub beside : Side → List ℕ → List ℕ → List ℕ
beside Front block more = more ++ block
beside Back block more = block ++ more

-- an item after a change, with another unique: it expires when it did
abbrev pub edited : Edit → ℕ → Item → Item
edited (Whole flags block) unique item = record { flags = flags; expiry = item.expiry; block = block.now; unique = unique }
edited (Join side more) unique item = record item { block = beside side item.block more.now; unique = unique }

-- what a key has, beside an expiry
abbrev pub found_of : Expiry → Option Item → Found
found_of expiry None = Absent
found_of expiry (Some item) = if same_expiry item.expiry expiry then Alike else Other item.expiry

-- the items after a change of a key's item, where that has this expiry
abbrev pub edited_alike : Items → List ℕ → Expiry → Edit → ℕ → Option Item → Items
edited_alike items key expiry edit unique None = items
edited_alike items key expiry edit unique (Some item) =
    if same_expiry item.expiry expiry then map.insert items key (edited edit unique item) else items

-- bytes joined to the block that a key has
abbrev pub joining : Contents → List ℕ → Side → List ℕ → Option Item → Answer
joining store key side more None = line (codes "NOT_STORED") store
joining store key side more (Some item) = joined store key item (beside side item.block more)

-- what an item's number is once it is counted; none where it holds none
abbrev pub number_after : Bool → ℕ → Item → Option ℕ
number_after up delta item = option_map (λ number. counted up number delta) (number_of item.block)

-- an item with another number and another unique: it expires when it did
abbrev pub renumbered_item : Item → ℕ → ℕ → Item
renumbered_item item number unique = record item { block = decimal number; unique = unique }

-- what becomes of the number that an item holds
abbrev pub counting_item : Bool → ℕ → Item → Counting
counting_item up delta item = option_map_or (λ number. Number number) (number_after up delta item) NotNumber

-- an item that is counted; it stays where it holds no number
abbrev pub counted_item : Bool → ℕ → ℕ → Item → Item
counted_item up delta unique item = option_map_or (λ number. renumbered_item item number unique) (number_after up delta item) item

-- the same by what a key has
abbrev pub counting_of : Bool → ℕ → Option Item → Counting
counting_of up delta None = Missing
counting_of up delta (Some item) = counting_item up delta item

-- the items once a key's item is counted
abbrev pub counted_in : Items → List ℕ → Bool → ℕ → ℕ → Option Item → Items
counted_in items key up delta unique None = items
counted_in items key up delta unique (Some item) =
    option_map_or (λ number. map.insert items key (renumbered_item item number unique)) (number_after up delta item) items
