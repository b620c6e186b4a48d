-- A context is told by the tag of the value that names it.
use Rattle.std.proofs.Common.{◌≡◌, ℕ, refl}
use Rattle.clof_compose.specs.Contexts.{Context, own_tag, root_tag_in}

pub own_tag-tells : (n m : ℕ) (c d : Context) → own_tag n c ≡ own_tag m d → (n ≡ m) × (c ≡ d)
unfolding own_tag
own_tag-tells n m c d e =
    let tag : c.tag ≡ d.tag = cc in
    let node : n ≡ m = cc in
    let level : c.level ≡ d.level = cc in
    let own : c.node ≡ d.node = cc in
    let number : c.number ≡ d.number = cc in
    let lock : c.pass.lock ≡ d.pass.lock = cc in
    let pass_tag : c.pass.tag ≡ d.pass.tag = cc in
    let pass_number : c.pass.number ≡ d.pass.number = cc in (
      node,
      λ i. record {
        level = level i;
        node = own i;
        number = number i;
        pass = record {
          lock = lock i;
          tag = pass_tag i;
          number =
              pass_number i;
        };
        tag = tag i;
      },
    )

pub root_tag_in-own_tag : (n : ℕ) (c : Context) → root_tag_in (own_tag n c) ≡ c.tag
unfolding own_tag root_tag_in
root_tag_in-own_tag n c = refl
