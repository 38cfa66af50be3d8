-- The laws of a family, as the trait gives them.
use Rattle.std.proofs.Common.{◌≡◌, ℕ, ◌^◌, ◌<◌, ◌≤◌}
use Rattle.walk_law.proofs.Listing.{Laws}

pub laws_from : {K : Type 0} {rank : K → ℕ} {levels top : ℕ} → ((x y : K) → rank x ≡ rank y → x ≡ y) → ((x : K) → rank x ≤ top)
    → ((n : ℕ) → n ≤ top → (x : K) × (rank x ≡ n))
    → top < 2 ^ levels
    → (1 ≤ levels) × (levels ≤ 48)
    → Laws rank levels top
laws_from same within every narrow bounds = record { same = same; within = within; every = every; narrow = narrow; few_levels = bounds.1 }
