-- Frames sent one after the other: what becomes of the units and of the bus.
use Rattle.std.proofs.Common.{◌≡◌, ℕ, ◌%◌, Bool, true, false, cond, not, ◌&&◌, eqb, leb, List, [], ◌∷◌, map, Some, None, filter, Option, sym, refl, ap, ◌∙◌, map-id, arith}
use mathlib.Core.List.{map-map}
use mathlib.Core.Path.{subst₃}
use Rattle.std.specs.List.{list_any}
use Rattle.keys.specs.RandomAddress.{random_number}
use Rattle.keys.specs.declared.random_address.RandomAddress.{RandomAddress}
use Rattle.dali.specs.Search.{search_frames}
use Rattle.dali.specs.ShortAddress.{short_byte}
use Rattle.dali.specs.declared.frame.Frame.{Frame}
use Rattle.dali.specs.declared.frame.Frame.TheVariants.{Terminate, Initialise, Compare, Withdraw, QueryShortAddress, SearchLow, Program}
use Rattle.dali.specs.declared.short_address.ShortAddress.{ShortAddress}
use Rattle.units.specs.SearchAddress.{search_number, search_at}
use Rattle.units.specs.Received.{received, is_nothing}
use Rattle.units.specs.Sent.{Sent}
use Rattle.units.specs.State.{is_enabled, is_disabled}
use Rattle.units.specs.Unit.{unit_after, unit_reply, is_selected, with_state, with_address}
use Rattle.units.specs.declared.bus.Bus.{Bus}
use Rattle.units.specs.declared.received.Received.{Received}
use Rattle.units.specs.declared.state.State.{State}
use Rattle.units.specs.declared.state.State.TheVariants.{Disabled, Enabled, Withdrawn}
use Rattle.units.specs.declared.unit.Unit.{Unit}
use Rattle.dali_line.specs.Controller.{units_after_all, said_to, seeking, compares_up_to, selected_at, withdrawn_at, addressed_at}
use Rattle.dali_line.proofs.Heard.{address_byte, replies_kept, replies_changed, any_received}
use Rattle.dali_line.specs.Table.{unit_number}

-- The same frame, sent to the same units over the same bus.
sent_at : {us vs us' : List Unit} {bus b bus' : Bus} {frame f : Frame} {heard : Received} → us ≡ vs → bus ≡ b → frame ≡ f
    → Sent us bus frame heard us' bus'
    → Sent vs b f heard us' bus'
sent_at {us' = us'} {bus' = bus'} {heard = heard} e d g s = subst₃ (λ x y z. Sent x y z heard us' bus') e d g s

-- The three frames of a search address change no unit.
pub seek_sent : (bus : Bus) (n : ℕ) (us : List Unit) → units_after_all bus (search_frames n) us ≡ us
seek_sent bus n us = map-id _ ∙ map-id _ ∙ map-id us

-- A100, A500, A500.
pub enable_sent : (bus : Bus) (us : List Unit) → units_after_all bus (Terminate ∷ Initialise ∷ Initialise ∷ []) us ≡ map (with_state Enabled) us
enable_sent bus us = ap (map (with_state Enabled)) (map-id (map (with_state Disabled) us)) ∙ map-map (with_state Enabled) (with_state Disabled) us

-- The search address of a key has the key's number.
pub at_number : (key : RandomAddress) → search_number (search_at (random_number key)) ≡ random_number key
at_number key = omega arith

-- At the search address of a key, units react by the key's number.
module _ (key : RandomAddress) (last : Frame) where
  pub selected_is : is_selected (said_to (random_number key) last) ≡ selected_at (random_number key)
  selected_is = ap (λ m (u : Unit). not (is_disabled u.state) && eqb (unit_number u) m) (at_number key)

  pub withdrawn_is : unit_after (said_to (random_number key) last) Withdraw ≡ withdrawn_at (random_number key)
  withdrawn_is = ap (λ m (u : Unit). cond (is_enabled u.state && eqb (unit_number u) m) (with_state Withdrawn u) u) (at_number key)

  pub addressed_is : (a : ShortAddress) → unit_after (said_to (random_number key) last) (Program a) ≡ addressed_at (random_number key) a
  addressed_is a = ap (λ m (u : Unit). cond (not (is_disabled u.state) && eqb (unit_number u) m) (with_address (Some a) u) u) (at_number key)

  compares_is : (u : Unit) → unit_reply (said_to (random_number key) last) Compare u ≡ cond (compares_up_to (random_number key) u) (Some 0xFF) None
  compares_is u = ap (λ m. cond (is_enabled u.state && leb (unit_number u) m) (Some 0xFF) None) (at_number key)

  query_is : (u : Unit) → unit_reply (said_to (random_number key) last) QueryShortAddress u ≡ cond (selected_at (random_number key) u) (Some (address_byte u)) None
  query_is u = ap (λ (test : Unit → Bool). cond (test u) (Some (address_byte u)) None) selected_is

-- A withdrawn unit tells its address as before.
told_withdrawn : (n : ℕ) (u : Unit) → cond (selected_at n (withdrawn_at n u)) (Some (address_byte (withdrawn_at n u))) None ≡ cond (selected_at n u) (Some (address_byte u)) None
told_withdrawn n u = by u.key u.address u.state
  where
    tells : Unit → Option ℕ
    tells v = cond (selected_at n v) (Some (address_byte v)) None

    enabled : (v : Unit) (t : Bool) → is_disabled v.state ≡ false → tells (cond t (with_state Withdrawn v) v) ≡ tells v
    enabled v true e = ap (λ b. cond (not b && eqb (unit_number v) n) (Some (address_byte v)) None) (sym e)
    enabled v false e = refl

    by : (k : RandomAddress) (a : Option ShortAddress) (s : State) → let v : Unit = record { key = k; address = a; state = s } in tells (withdrawn_at n v) ≡ tells v
    by k a Disabled = refl
    by k a Enabled = enabled (record { key = k; address = a; state = Enabled }) (eqb (random_number k) n) refl
    by k a Withdrawn = refl

-- A unit that was given an address tells it.
told_addressed : (n : ℕ) (a : ShortAddress) (u : Unit) → cond (selected_at n (addressed_at n a u)) (Some (address_byte (addressed_at n a u))) None ≡ cond (selected_at n u) (Some (short_byte a)) None
told_addressed n a u = by (selected_at n u) refl
  where
    tells : Unit → Option ℕ
    tells v = cond (selected_at n v) (Some (address_byte v)) None

    by : (t : Bool) → selected_at n u ≡ t → tells (cond t (with_address (Some a) u) u) ≡ cond t (Some (short_byte a)) None
    by true e = ap (λ b. cond b (Some (short_byte a)) None) e
    by false e = ap (λ b. cond b (Some (address_byte u)) None) e

-- The last of the three frames of a search address.
abbrev low_frame : RandomAddress → Frame
low_frame key = SearchLow (random_number key % 256)

-- What follows on a search address, said by what the units were before it.
module _ (key : RandomAddress) {us us1 : List Unit} {bus1 : Bus} (units_then : us1 ≡ us) (bus_then : bus1 ≡ seeking (random_number key)) where
  -- A900.
  pub compare_sent : {us2 : List Unit} {bus2 : Bus} {r : Received} → Sent us1 bus1 Compare r us2 bus2
      → (not (is_nothing r) ≡ list_any (compares_up_to (random_number key)) us)
      × (us2 ≡ us)
      × (bus2 ≡ said_to (random_number key) Compare)
  compare_sent s =
      let t = sent_at units_then bus_then refl s in
      let heard = replies_kept _ (compares_up_to (random_number key)) (λ _. 0xFF) (compares_is key (low_frame key)) us in (
        ap (λ r. not (is_nothing r)) (t.answer ∙ ap received heard) ∙ any_received _ _ us,
        t.units_then ∙ map-id us,
        t.bus_then,
      )

  -- BB00.
  pub query_sent : {us2 : List Unit} {bus2 : Bus} {r : Received} → Sent us1 bus1 QueryShortAddress r us2 bus2
      → (r ≡ received (map address_byte (filter (selected_at (random_number key)) us)))
      × (us2 ≡ us)
      × (bus2 ≡ said_to (random_number key) QueryShortAddress)
  query_sent s =
      let t = sent_at units_then bus_then refl s in
      let heard = replies_kept _ (selected_at (random_number key)) address_byte (query_is key (low_frame key)) us in
      (t.answer ∙ ap received heard, t.units_then ∙ map-id us, t.bus_then)

  -- AB00, BB00.
  pub withdraw_sent : {us2 us3 : List Unit} {bus2 bus3 : Bus} {r1 r2 : Received}
      → Sent us1 bus1 Withdraw r1 us2 bus2
      → Sent us2 bus2 QueryShortAddress r2 us3 bus3
      → (not (is_nothing r2) ≡ list_any (selected_at (random_number key)) us)
      × (us3 ≡ map (withdrawn_at (random_number key)) us)
      × (bus3 ≡ said_to (random_number key) QueryShortAddress)
  withdraw_sent s1 s2 =
      let n = random_number key in
      let t1 = sent_at units_then bus_then refl s1 in
      let t2 = sent_at (t1.units_then ∙ ap (λ f. map f us) (withdrawn_is key (low_frame key))) t1.bus_then refl s2 in
      let heard =
      replies_changed _ (withdrawn_at n) (selected_at n) address_byte (λ u. query_is key Withdraw (withdrawn_at n u) ∙ told_withdrawn n u) us in (
        ap (λ r. not (is_nothing r)) (t2.answer ∙ ap received heard) ∙ any_received _ _ us,
        t2.units_then ∙ map-id _,
        t2.bus_then,
      )

  -- B7 with an address, BB00.
  pub program_sent : {us2 us3 : List Unit} {bus2 bus3 : Bus} {r1 r2 : Received} (a : ShortAddress)
      → Sent us1 bus1 (Program a) r1 us2 bus2
      → Sent us2 bus2 QueryShortAddress r2 us3 bus3
      → (r2 ≡ received (map (λ _. short_byte a) (filter (selected_at (random_number key)) us)))
      × (us3 ≡ map (addressed_at (random_number key) a) us)
      × (bus3 ≡ said_to (random_number key) QueryShortAddress)
  program_sent a s1 s2 =
      let n = random_number key in
      let t1 = sent_at units_then bus_then refl s1 in
      let t2 = sent_at (t1.units_then ∙ ap (λ f. map f us) (addressed_is key (low_frame key) a)) t1.bus_then refl s2 in
      let heard =
      replies_changed _ (addressed_at n a) (selected_at n) (λ _. short_byte a)
      (λ u. query_is key (Program a) (addressed_at n a u) ∙ told_addressed n a u)
      us in
      (t2.answer ∙ ap received heard, t2.units_then ∙ map-id _, t2.bus_then)
