-- What is received of the units that reply, one by one.
use Rattle.std.proofs.Common.{◌≡◌, ℕ, Bool, true, false, cond, not, ◌||◌, eqb, ◌⊎◌, List, [], ◌∷◌, ◌++◌, map, is_some, Some, None, filter, Option, refl, ap, ◌∙◌, inl, inr, arith}
use Rattle.std.proofs.lemmas.Bool.{eq-eqb}
use Rattle.std.proofs.lemmas.Bool.Decides.{nat_tests}
use Rattle.std.specs.Option.{option_to_list}
use Rattle.std.specs.List.{flat_map, list_any}
use Rattle.dali.proofs.Frames.{same_short}
use Rattle.dali.specs.ShortAddress.{stored_byte, StoredAt}
use Rattle.dali.specs.declared.short_address.ShortAddress.{ShortAddress}
use Rattle.units.specs.Received.{received, is_nothing}
use Rattle.units.specs.declared.received.Received.{Received}
use Rattle.units.specs.declared.received.Received.TheVariants.{Nothing, One, Several}
use Rattle.units.specs.declared.unit.Unit.{Unit}
use Rattle.dali_line.specs.Controller.{told}

joined_map : {X Y A : Type 0} (give : Y → List A) (f : X → Y) (xs : List X) → flat_map give (map f xs) ≡ flat_map (λ x. give (f x)) xs
joined_map give f [] = refl
joined_map give f (x ∷ xs) = ap (λ rest. give (f x) ++ rest) (joined_map give f xs)

-- Those that pass a test reply, and no others.
pub replies_kept : (reply : Unit → Option ℕ) (test : Unit → Bool) (give : Unit → ℕ)
    → ((u : Unit) → reply u ≡ cond (test u) (Some (give u)) None)
    → (us : List Unit)
    → flat_map (λ u. option_to_list (reply u)) us ≡ map give (filter test us)
replies_kept reply test give each [] = refl
replies_kept reply test give each (u ∷ us) =
    let rest = replies_kept reply test give each us in
    ap (λ o. option_to_list o ++ flat_map (λ v. option_to_list (reply v)) us) (each u)
    ∙ elim (test u) as
    (λ t. option_to_list (cond t (Some (give u)) None) ++ flat_map (λ v. option_to_list (reply v)) us ≡ map give (cond t (u ∷ filter test us) (filter test us)))
    [ true ↦ ap (λ l. give u ∷ l) rest | false ↦ rest ]

-- The same of units that were changed before, said by what they were.
pub replies_changed : (reply : Unit → Option ℕ) (f : Unit → Unit) (test : Unit → Bool) (give : Unit → ℕ)
    → ((u : Unit) → reply (f u) ≡ cond (test u) (Some (give u)) None)
    → (us : List Unit)
    → flat_map (λ u. option_to_list (reply u)) (map f us) ≡ map give (filter test us)
replies_changed reply f test give each us =
    joined_map (λ u. option_to_list (reply u)) f us ∙ replies_kept (λ u. reply (f u)) test give each us

some_received : (byte : ℕ) (bytes : List ℕ) → is_nothing (received (byte ∷ bytes)) ≡ false
some_received byte [] = refl
some_received byte (another ∷ more) = refl

-- Something is received exactly if one replies.
pub any_received : (test : Unit → Bool) (give : Unit → ℕ) (us : List Unit) → not (is_nothing (received (map give (filter test us)))) ≡ list_any test us
any_received test give [] = refl
any_received test give (u ∷ us) =
    let rest = any_received test give us in
    elim (test u) as
    (λ t. not (is_nothing (received (map give (cond t (u ∷ filter test us) (filter test us))))) ≡ (t || list_any test us))
    [ true ↦ ap not (some_received (give u) (map give (filter test us))) | false ↦ rest ]

-- The reply of a unit tells its address.
address_told : (a b : Option ShortAddress) → stored_byte a ≡ stored_byte b → a ≡ b
address_told (Some x) (Some y) e = ap Some (same_short x y (omega arith))
address_told (Some x) None e = absurd (omega arith)
address_told None (Some y) e = absurd (omega arith)
address_told None None e = refl

reply_told : (a : Option ShortAddress) (byte : ℕ) (r : Option (Option ShortAddress)) → byte ≡ stored_byte a → StoredAt byte r → r ≡ Some a
reply_told a byte (Some b) e is = ap Some (address_told b a (is ∙ e))
reply_told None byte None e is = absurd (is.1 e)
reply_told (Some x) byte None e is = absurd (let z : ◌≡◌ {A = ℕ} 0 1 = grind (arith, nat_tests) in omega arith)

abbrev pub address_byte : Unit → ℕ
address_byte u = stored_byte u.address

-- What is read of the one reply, or of none or several.
pub one_told : (us : List Unit) (byte : ℕ) (r : Option (Option ShortAddress)) → One byte ≡ received (map address_byte us) → StoredAt byte r → r ≡ told us
one_told [] byte r e is = cc
one_told (u ∷ []) byte r e is = reply_told u.address byte r (cc) is
one_told (u ∷ v ∷ more) byte r e is = cc

pub none_told : (us : List Unit) (give : Unit → ℕ) (r : Received) → r ≡ received (map give us) → (r ≡ Nothing) ⊎ (r ≡ Several) → None ≡ told us
none_told [] give r e none = refl
none_told (u ∷ []) give r e (inl none) = cc
none_told (u ∷ []) give r e (inr none) = cc
none_told (u ∷ v ∷ more) give r e none = refl

-- The one reply, if every unit would give the same.
abbrev pub is_byte : ℕ → Received → Bool
is_byte byte Nothing = false
is_byte byte (One reply) = eqb reply byte
is_byte byte Several = false

pub same_told : (us : List Unit) (same : ℕ) → is_byte same (received (map (λ _. same) us)) ≡ is_some (told us)
same_told [] same = refl
same_told (u ∷ []) same = eq-eqb same same refl
same_told (u ∷ v ∷ more) same = refl
