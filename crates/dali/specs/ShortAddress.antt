-- Short addresses, as slots and as bytes.
use Rattle.std.specs.Prelude.{◌≡◌, ℕ, ◌+◌, ◌*◌, false, Some, None, Option, Result, IfErr, ◌≢◌}
use Rattle.std.specs.Result.{result_ok}
use Rattle.refusals.specs.declared.Refusal.{Refusal}
use Rattle.refusals.specs.declared.Refusal.TheVariants.{AddressOutside}
use Rattle.keys.specs.Address.{in_family}
use Rattle.keys.specs.declared.address.Address.{Address}
use Rattle.dali.specs.Codes.{is_short}
use Rattle.dali.specs.declared.short_address.ShortAddress.{ShortAddress}

abbrev pub short_byte : ShortAddress → ℕ
short_byte a = 2 * a.value + 1

-- r is the short address of a slot: none outside the family.
abbrev pub ShortOf : Address → Option ShortAddress → Type 0
ShortOf address None = in_family 0 64 address ≡ false
ShortOf address (Some a) = a.value ≡ address.slot

-- r is the same, or the refusal of an address outside the family.
abbrev pub ShortTried : Address → Result ShortAddress Refusal → Type 0
ShortTried address r = ShortOf address (result_ok r) × IfErr r (λ refusal. refusal ≡ AddressOutside)

-- r is the slot of a short address.
abbrev pub SlotOf : ShortAddress → Address → Type 0
SlotOf short address = address.slot ≡ short.value

-- r is the short address that a byte stands for.
abbrev pub ShortAt : ℕ → Option ShortAddress → Type 0
ShortAt b None = is_short b ≡ false
ShortAt b (Some a) = short_byte a ≡ b

-- The reply of a unit that has this address, or none.
abbrev pub stored_byte : Option ShortAddress → ℕ
stored_byte (Some a) = short_byte a
stored_byte None = 0xFF

-- r is what a byte tells of the address of a unit: nothing if no unit replies so.
abbrev pub StoredAt : ℕ → Option (Option ShortAddress) → Type 0
StoredAt b None = (is_short b ≡ false) × (b ≢ 0xFF)
StoredAt b (Some address) = stored_byte address ≡ b
