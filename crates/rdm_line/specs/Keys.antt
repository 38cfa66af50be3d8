-- Keys by their numbers and by their ranks: both orders agree.
use Rattle.std.specs.Prelude.{◌≡◌, ℕ, ◌≤◌, true, ◌==◌, nat_le}
use Rattle.std.proofs.Common.{arith}
use Rattle.std.proofs.lemmas.Bool.Decides.{nat_tests}
use Rattle.keys.specs.Uids.{orders_agree, same_from_rank}
use Rattle.keys.specs.Uid.{uid_rank, uid_number}
use Rattle.keys.specs.declared.uid.Uid.{Uid}

pub eqb_turned : (a b : ℕ) → (a == b) ≡ (b == a)
eqb_turned a b = grind (arith, nat_tests)

module _ (x y : Uid) where
  pub same_test : (uid_rank x == uid_rank y) ≡ (uid_number x == uid_number y)
  same_test = let below = orders_agree x y in let above = orders_agree y x in grind (arith, nat_tests)

  pub same_from_number : uid_number x ≡ uid_number y → x ≡ y
  same_from_number e = let same = same_test in same_from_rank x y (grind (arith, nat_tests))

  pub number_from_rank : uid_rank x ≤ uid_rank y → nat_le (uid_number x) (uid_number y) ≡ true
  number_from_rank h = let above = orders_agree y x in grind (arith, nat_tests)

  pub rank_from_number : nat_le (uid_number x) (uid_number y) ≡ true → uid_rank x ≤ uid_rank y
  rank_from_number h = let above = orders_agree y x in grind (arith, nat_tests)
