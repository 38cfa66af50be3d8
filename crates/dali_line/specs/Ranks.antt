-- The ranks of keys, by the numbers on the wire: both orders agree.
use Rattle.std.specs.Prelude.{◌≡◌, ◌≤◌, ◌==◌}
use Rattle.std.proofs.Common.{arith}
use Rattle.std.proofs.lemmas.Bool.Decides.{nat_tests}
use Rattle.keys.specs.RandomAddresses.{orders_agree, same_from_rank}
use Rattle.keys.specs.RandomAddress.{random_number, random_rank}
use Rattle.keys.specs.declared.random_address.RandomAddress.{RandomAddress}

module _ (x y : RandomAddress) where
  pub same_tests : (random_rank x == random_rank y) ≡ (random_number x == random_number y)
  same_tests = let below = orders_agree x y in let above = orders_agree y x in grind (arith, nat_tests)

  pub number_le : random_rank x ≤ random_rank y → random_number x ≤ random_number y
  number_le h = let above = orders_agree y x in grind (arith, nat_tests)

  pub rank_le : random_number x ≤ random_number y → random_rank x ≤ random_rank y
  rank_le h = let above = orders_agree y x in grind (arith, nat_tests)

  pub same_key : random_number x ≡ random_number y → x ≡ y
  same_key e = same_from_rank x y (let below = orders_agree x y in let above = orders_agree y x in grind (arith, nat_tests))
