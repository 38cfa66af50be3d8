-- What is read of the reply of the one fixture that was asked.
use Rattle.std.proofs.Common.{◌≡◌, ℕ, ◌+◌, ◌-◌, ◌*◌, ◌/◌, ◌%◌, ◌^◌, ◌<◌, ◌≤◌, Bool, true, false, cond, ◌&&◌, eqb, leb, is_some, IfSome, Some, None, Ok, Option, sym, refl, ap, ◌∙◌, subst, ap₂, arith}
use Rattle.std.proofs.lemmas.Bool.{and_parts, leb-true, ne_eqb}
use Rattle.std.proofs.lemmas.Bool.Decides.{nat_tests}
use Rattle.std.proofs.Math.Bool.{and-true, and-false}
use Rattle.std.specs.Option.{option_map}
use Rattle.keys.specs.Address.{in_family}
use Rattle.keys.specs.declared.address.Address.{Address}
use Rattle.keys.specs.declared.uid.Uid.{Uid}
use Rattle.refusals.specs.declared.Refusal.TheVariants.{AddressOutside}
use Rattle.packets.specs.declared.parameter.Parameter.TheVariants as parameter
use Rattle.rdm.proofs.RepliesReadBack.{reply_reads_back}
use Rattle.rdm.specs.Question.{destination_of, destination_number, heard}
use Rattle.rdm.specs.ReadReply.{expects, expected_by, reply_at, info_at}
use Rattle.rdm.specs.Reply.{info_bytes, response_of, reply_payload, reply_frame}
use Rattle.rdm.specs.declared.question.Destination.TheVariants.{One}
use Rattle.rdm.specs.declared.question.Question.{Question}
use Rattle.rdm.specs.declared.question.Question.TheVariants.{Mute, DeviceInfo, StartAddress}
use Rattle.rdm.specs.declared.reply.DeviceInfo as told
use Rattle.rdm.specs.declared.reply.Reason.TheVariants.{UnknownPid, DataOutOfRange}
use Rattle.rdm.specs.declared.reply.Reply.{Reply}
use Rattle.rdm.specs.declared.reply.Reply.TheVariants.{Muted, Info, AddressTaken, AddressRefused}
use Rattle.fixtures.specs.Reaction.{with_address}
use Rattle.fixtures.specs.declared.fixture.Fixture.{Fixture}
use Rattle.lines.specs.Rules.{hush_answer, footprint_of, query_answer, wide_there, set_answer}
use Rattle.lines.specs.Tables.{found_keeps}
use Rattle.rdm_line.specs.Asking.{replies, line_replies}
use Rattle.rdm_line.specs.Cable.{quiet}
use Rattle.rdm_line.specs.Heard as hearing
use Rattle.rdm_line.specs.Heard.{says_yes, yes_heard, footprint_told, footprint_heard}
use Rattle.rdm_line.specs.Means.{has_key, fixture_at, seen, meaning_of}
use Rattle.rdm_line.specs.State.{State, fitted}
use Rattle.rdm_line.specs.Table.{address_fits, is_sound, keys_distinct, all_sound}
use Rattle.rdm_line.proofs.Questions.{refused_signal}
use Rattle.rdm_line.proofs.Unicast.{own_answer, answer_heard, one_replies}

-- Replies to questions of the line read back as themselves.
reply_read : (q : Question) (key : Uid) → destination_of q ≡ One key → (reply : Reply)
    → reply_at (expected_by reply (heard q 0)) (reply_frame reply (heard q 0)) ≡ Ok (response_of reply, 24, reply_payload reply)
reply_read q key to_one reply =
    reply_reads_back reply (heard q 0) (omega arith) refl
    (subst (λ d. destination_number d < 2 ^ 48 - 1) (sym to_one) key.key)

-- hush
module _ (s : State) (apart : keys_distinct (fitted s) ≡ true) where
  pub hush_heard : (key : Uid) → yes_heard (expects parameter.Mute 0 key) (line_replies (Mute (One key)) s) ≡ hush_answer (meaning_of s) key
  unfolding meaning_of
  hush_heard key = by s.live
    where
      found_yes : (o : Option Fixture) → yes_heard (expects parameter.Mute 0 key) (answer_heard (own_answer (Mute (One key))) o) ≡ is_some (option_map seen o)
      found_yes None = refl
      found_yes (Some f) = ap says_yes (reply_read (Mute (One key)) key refl Muted)

      by : (live : Bool) → yes_heard (expects parameter.Mute 0 key) (cond live (replies s.mode (Mute (One key)) (fitted s)) quiet)
          ≡ (live && is_some (option_map seen (fixture_at (fitted s) key)))
      by false = refl
      by true =
          ap (yes_heard (expects parameter.Mute 0 key)) (one_replies (Mute (One key)) key refl refl s.mode (fitted s) apart)
          ∙ found_yes (fixture_at (fitted s) key)

-- query: what a sound fixture tells reads back as it is.
abbrev told_by : Fixture → told.DeviceInfo
told_by f = record { width = f.width; address = f.address }

two_read : (n : ℕ) → n ≤ 512 → n / 256 % 256 * 256 + n % 256 ≡ n
two_read n small = omega arith

slot_read : (a : Address) → a.slot ≤ 512 → cond (eqb a.slot 0xFFFF) None (Some a) ≡ Some a
slot_read a small = rw (ne_eqb a.slot 0xFFFF (omega arith))

info_read : (width : ℕ) (o : Option Address) → width ≤ 512 → IfSome o (λ a. a.slot ≤ 512)
    → info_at (info_bytes (record { width = width; address = o })) ≡ Some (record { width = width; address = o })
unfolding info_bytes
info_read width None small fits = ap (λ w. Some (record { width = w; address = None })) (two_read width small)
info_read width (Some a) small fits =
    ap₂ (λ w n. Some (record { width = w; address = cond (eqb n 0xFFFF) None (Some (record { slot = n })) })) (two_read width small) (two_read a.slot fits)
    ∙ ap (λ o. Some (record { width = width; address = o })) (slot_read a fits)

slot_within : (width : ℕ) (o : Option Address) → address_fits width o ≡ true → IfSome o (λ a. a.slot ≤ 512)
slot_within width None fits = tt
slot_within width (Some a) fits = grind (arith, nat_tests)

info_back : (f : Fixture) → is_sound f ≡ true → info_at (info_bytes (told_by f)) ≡ Some (told_by f)
info_back f sound =
    let parts = and_parts (leb f.width 512) (address_fits f.width f.address) sound in
    info_read f.width f.address (leb-true f.width 512 parts.0) (slot_within f.width f.address parts.1)

module _ (s : State) (apart : keys_distinct (fitted s) ≡ true) (sound : all_sound (fitted s) ≡ true) where
  pub query_heard : (key : Uid) → footprint_heard (expects parameter.DeviceInfo 0 key) (line_replies (DeviceInfo key) s) ≡ query_answer (meaning_of s) key
  unfolding all_sound meaning_of
  query_heard key = by s.live
    where
      found_told : (o : Option Fixture) → IfSome o (λ f. is_sound f ≡ true)
          → footprint_heard (expects parameter.DeviceInfo 0 key) (answer_heard (own_answer (DeviceInfo key)) o) ≡ option_map footprint_of (option_map seen o)
      found_told None fine = refl
      found_told (Some f) fine =
          ap hearing.tells (reply_read (DeviceInfo key) key refl (Info (told_by f))) ∙ ap (option_map footprint_told) (info_back f fine)

      by : (live : Bool) → footprint_heard (expects parameter.DeviceInfo 0 key) (cond live (replies s.mode (DeviceInfo key) (fitted s)) quiet)
          ≡ cond live (option_map footprint_of (option_map seen (fixture_at (fitted s) key))) None
      by false = refl
      by true =
          ap (footprint_heard (expects parameter.DeviceInfo 0 key)) (one_replies (DeviceInfo key) key refl refl s.mode (fitted s) apart)
          ∙ found_told (fixture_at (fitted s) key) (found_keeps (has_key key) is_sound (fitted s) sound)

-- set: a fixture that takes slots takes every address of the family.
abbrev moved_reply : Bool → Bool → Reply
moved_reply narrow inside = cond narrow (AddressRefused UnknownPid) (cond inside AddressTaken (AddressRefused DataOutOfRange))

module _ (key : Uid) (a : Address) where
  taken_yes : (f : Fixture) → in_family 1 512 a ≡ true
      → yes_heard (expects parameter.StartAddress 0 key) (answer_heard (own_answer (StartAddress key a)) (Some f)) ≡ leb 1 f.width
  taken_yes f inside = ap heard_of (reply_is (eqb f.width 0) (in_family 1 512 a)) ∙ by (eqb f.width 0) refl
    where
      heard_of : Reply → Bool
      heard_of reply = says_yes (reply_at (expects parameter.StartAddress 0 key) (reply_frame reply (heard (StartAddress key a) 0)))

      reply_is : (narrow good : Bool)
          → (cond {A = Fixture × Reply} narrow (f, AddressRefused UnknownPid) (cond good (with_address a f, AddressTaken) (f, AddressRefused DataOutOfRange))).1
          ≡ moved_reply narrow good
      reply_is true good = refl
      reply_is false true = refl
      reply_is false false = refl

      by : (narrow : Bool) → eqb f.width 0 ≡ narrow → heard_of (moved_reply narrow (in_family 1 512 a)) ≡ leb 1 f.width
      by true e = ap says_yes (reply_read (StartAddress key a) key refl (AddressRefused UnknownPid)) ∙ grind (arith, nat_tests)
      by false e =
          ap (λ t. heard_of (moved_reply false t)) inside
          ∙ ap says_yes (reply_read (StartAddress key a) key refl AddressTaken)
          ∙ grind (arith, nat_tests)

  module _ (s : State) (apart : keys_distinct (fitted s) ≡ true) where
    pub set_heard : yes_heard (expects parameter.StartAddress 0 key) (line_replies (StartAddress key a) s) ≡ set_answer 1 512 (meaning_of s) key a
    unfolding meaning_of
    set_heard = by s.live (in_family 1 512 a) refl
      where
        found_yes : in_family 1 512 a ≡ true → (o : Option Fixture)
            → yes_heard (expects parameter.StartAddress 0 key) (answer_heard (own_answer (StartAddress key a)) o) ≡ wide_there (option_map seen o)
        found_yes inside None = refl
        found_yes inside (Some f) = taken_yes f inside

        by : (live inside : Bool) → in_family 1 512 a ≡ inside
            → yes_heard (expects parameter.StartAddress 0 key) (cond live (replies s.mode (StartAddress key a) (fitted s)) quiet)
            ≡ (live && (wide_there (option_map seen (fixture_at (fitted s) key)) && inside))
        by false inside e = refl
        by true false e =
            ap (yes_heard (expects parameter.StartAddress 0 key)) (sym (refused_signal (StartAddress key a) (fitted s) s.mode AddressOutside (rw e)))
            ∙ sym (and-false (wide_there (option_map seen (fixture_at (fitted s) key))))
        by true true e =
            ap (yes_heard (expects parameter.StartAddress 0 key)) (one_replies (StartAddress key a) key refl (rw e) s.mode (fitted s) apart)
            ∙ found_yes e (fixture_at (fitted s) key)
            ∙ sym (and-true (wide_there (option_map seen (fixture_at (fitted s) key))))
