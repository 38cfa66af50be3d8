-- The laws of unique identifiers.
use Rattle.std.specs.Prelude.{◌≡◌, ℕ, ◌+◌, ◌-◌, ◌*◌, ◌/◌, ◌%◌, ◌^◌, ◌<◌, ◌≤◌, nat_lt, refl}
use Rattle.std.specs.Ordering.{MatchOrdering, nat_cmp, ordering_then}
use Rattle.std.specs.declared.cmp.Ordering.{Ordering}
use Rattle.std.specs.declared.cmp.Ordering.TheVariants.{Less, Equal, Greater}
use Rattle.std.specs.Cmp.{nat_cmp_is, ranks}
use mathlib.Core.HLevel.{is_prop→PathP}
use Rattle.std.proofs.Common.{arith}
use Rattle.std.proofs.Math.Bridge.{le_prop}
use Rattle.keys.specs.declared.uid.Uid.{Uid}
use Rattle.keys.specs.Uid.{uid_rank, uid_number, uid_top}

-- Two identifiers with the same parts are the same.
uid_from_parts : (x y : Uid) → x.manufacturer ≡ y.manufacturer → x.device ≡ y.device → x ≡ y
uid_from_parts x y m d =
    λ i. record {
      manufacturer = m i;
      device = d i;
      narrow = is_prop→PathP (λ j. d j < 2 ^ 32) (λ j. le_prop) x.narrow y.narrow i;
      key =
          is_prop→PathP (λ j. m j * 2 ^ 32 + d j < 2 ^ 48 - 1) (λ j. le_prop) x.key y.key i;
    }

pub same_from_rank : (x y : Uid) → uid_rank x ≡ uid_rank y → x ≡ y
unfolding uid_rank
same_from_rank x y e = uid_from_parts x y (omega arith) (omega arith)

-- Manufacturer first: two identifiers stand as their manufacturers do, and where these are the same, as their devices do.
manufacturer_first : (m n d e : ℕ) → d < 2 ^ 32 → e < 2 ^ 32 → (p q : Ordering) → MatchOrdering p (m < n) (m ≡ n) (n < m) → MatchOrdering q (d < e) (d ≡ e) (e < d) → MatchOrdering (ordering_then p q) (m * 2 ^ 32 + d < n * 2 ^ 32 + e) (m * 2 ^ 32 + d ≡ n * 2 ^ 32 + e) (n * 2 ^ 32 + e < m * 2 ^ 32 + d)
manufacturer_first m n d e narrow narrow' Less q h k = omega arith
manufacturer_first m n d e narrow narrow' Equal Less h k = omega arith
manufacturer_first m n d e narrow narrow' Equal Equal h k = omega arith
manufacturer_first m n d e narrow narrow' Equal Greater h k = omega arith
manufacturer_first m n d e narrow narrow' Greater q h k = omega arith

-- Identifiers compare as their ranks do.
pub in_order_of_rank : (x y : Uid) → ordering_then (nat_cmp x.manufacturer y.manufacturer) (nat_cmp x.device y.device) ≡ nat_cmp (uid_rank x) (uid_rank y)
unfolding uid_rank
in_order_of_rank x y =
    nat_cmp_is
    (uid_rank x)
    (uid_rank y)
    _
    (
    manufacturer_first
    x.manufacturer
    y.manufacturer
    x.device
    y.device
    x.narrow
    y.narrow
    (nat_cmp x.manufacturer y.manufacturer)
    (nat_cmp x.device y.device)
    (ranks x.manufacturer y.manufacturer)
    (ranks x.device y.device)
    )

pub rank_within : (x : Uid) → uid_rank x ≤ uid_top
unfolding uid_rank
rank_within x = omega arith

pub with_rank : (n : ℕ) → n ≤ uid_top → (x : Uid) × (uid_rank x ≡ n)
unfolding uid_rank
with_rank n h = (
  record {
    manufacturer = n / 2 ^ 32;
    device = n % 2 ^ 32;
    narrow = omega arith;
    key = omega arith;
  },
  omega arith,
)

-- Keys have the order of their numbers.
pub orders_agree : (x y : Uid) → nat_lt (uid_rank x) (uid_rank y) ≡ nat_lt (uid_number x) (uid_number y)
unfolding uid_rank
orders_agree x y = refl

pub uid_top_below_power : uid_top < 2 ^ 48
uid_top_below_power = omega arith

pub uid_levels_in_bounds : (1 ≤ 48) × (48 ≤ 48)
uid_levels_in_bounds = (omega arith, omega arith)

pub uid_addresses_in_bounds : (1 ≤ 512) × (512 ≤ 512)
uid_addresses_in_bounds = (omega arith, omega arith)
