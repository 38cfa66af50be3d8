-- The laws of random addresses.
use Rattle.std.specs.Prelude.{◌≡◌, ℕ, ◌^◌, ◌<◌, ◌≤◌, nat_lt, refl}
use Rattle.std.specs.Ordering.{nat_cmp}
use mathlib.Core.HLevel.{is_prop→PathP}
use Rattle.std.proofs.Common.{arith}
use Rattle.std.proofs.Math.Bridge.{le_prop}
use Rattle.keys.specs.declared.random_address.RandomAddress.{RandomAddress}
use Rattle.keys.specs.RandomAddress.{random_rank, random_number, random_top}

pub same_from_rank : (x y : RandomAddress) → random_rank x ≡ random_rank y → x ≡ y
unfolding random_rank
same_from_rank x y e =
    λ i. record {
      value = e i;
      narrow = is_prop→PathP (λ j. e j < 2 ^ 24) (λ j. le_prop) x.narrow y.narrow i;
    }

pub in_order_of_rank : (x y : RandomAddress) → nat_cmp x.value y.value ≡ nat_cmp (random_rank x) (random_rank y)
unfolding random_rank
in_order_of_rank x y = refl

pub rank_within : (x : RandomAddress) → random_rank x ≤ random_top
unfolding random_rank
rank_within x = omega arith

pub with_rank : (n : ℕ) → n ≤ random_top → (x : RandomAddress) × (random_rank x ≡ n)
unfolding random_rank
with_rank n h = (record { value = n; narrow = omega arith }, refl)

-- Keys have the order of their numbers.
pub orders_agree : (x y : RandomAddress) → nat_lt (random_rank x) (random_rank y) ≡ nat_lt (random_number x) (random_number y)
unfolding random_rank
orders_agree x y = refl

pub random_top_below_power : random_top < 2 ^ 24
random_top_below_power = omega arith

pub random_levels_in_bounds : (1 ≤ 24) × (24 ≤ 48)
random_levels_in_bounds = (omega arith, omega arith)

pub random_addresses_in_bounds : (0 ≤ 512) × (64 ≤ 512)
random_addresses_in_bounds = (omega arith, omega arith)
