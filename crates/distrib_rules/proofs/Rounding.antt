-- Quotients, rounded up.
use Rattle.std.proofs.Common.{◌≡◌, ℕ, ◌+◌, ◌-◌, ◌*◌, ◌/◌, ◌%◌, ◌<◌, ◌≤◌, sym, ap, ◌∙◌, arith}
use Rattle.std.proofs.Math.Nat.{mul_comm, mul_assoc, mul-le-mul_right, one-le-mul}
use Rattle.std.proofs.lemmas.Nat.{div-mul-add, div-add-mod', mod_below, le-div, div_below}
use Rattle.distrib_rules.specs.Shares.{rounded_up}

-- a quotient is the number whose multiple is next below
div_is : (n divisor quotient : ℕ) → quotient * divisor ≤ n → n < quotient * divisor + divisor → n / divisor ≡ quotient
div_is n divisor quotient low high =
    let split : n ≡ quotient * divisor + (n - quotient * divisor) = omega arith in
    ap (λ m. m / divisor) split ∙ div-mul-add quotient divisor (n - quotient * divisor) (omega arith)

pub rounded_low : (part whole : ℕ) → 1 ≤ whole → part ≤ rounded_up part whole * whole
rounded_low part whole some = omega (arith, div-add-mod' (part + whole - 1) whole, mod_below (part + whole - 1) whole (omega arith))

pub rounded_high : (part whole : ℕ) → 1 ≤ whole → rounded_up part whole * whole + 1 ≤ part + whole
rounded_high part whole some = omega (arith, div-add-mod' (part + whole - 1) whole)

-- both multiplied
pub rounded_scaled : (part whole scale : ℕ) → 1 ≤ whole → 1 ≤ scale → rounded_up (part * scale) (whole * scale) ≡ rounded_up part whole
rounded_scaled part whole scale some scaled =
    let quotient = rounded_up part whole in
    let same = mul_assoc quotient whole scale in
    let low = mul-le-mul_right scale (rounded_low part whole some) in
    let high = mul-le-mul_right scale (rounded_high part whole some) in
    let positive : 1 ≤ whole * scale = one-le-mul some scaled in
    div_is (part * scale + whole * scale - 1) (whole * scale) quotient (omega (arith, same, high)) (omega (arith, same, low))

pub rounded_whole : (whole times : ℕ) → 1 ≤ whole → rounded_up (whole * times) whole ≡ times
rounded_whole whole times some =
    let turned = mul_comm whole times in
    div_is (whole * times + whole - 1) whole times (omega (arith, turned)) (omega (arith, turned))

pub rounded_none : (whole : ℕ) → 1 ≤ whole → rounded_up 0 whole ≡ 0
rounded_none whole some = div_is (0 + whole - 1) whole 0 (omega arith) (omega arith)

pub rounded_rises : (part more whole : ℕ) → 1 ≤ whole → part ≤ more → rounded_up part whole ≤ rounded_up more whole
rounded_rises part more whole some less =
    le-div (rounded_up part whole) (more + whole - 1) whole (omega arith) (omega (arith, rounded_high part whole some))

-- a quotient of a sum is at most the one quotient and the other part
pub rounded_sum : (part more whole : ℕ) → 1 ≤ whole → rounded_up (part + more) whole ≤ rounded_up part whole + more
rounded_sum part more whole some =
    let quotient = rounded_up part whole + more in
    let scaled = mul-le-mul_right more some in
    let turned = mul_comm more whole in
    let below : part + more + whole - 1 < (quotient + 1) * whole = omega (arith, rounded_low part whole some, scaled, turned) in
    omega (arith, div_below (part + more + whole - 1) whole (quotient + 1) (omega arith) below)
