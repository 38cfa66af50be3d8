use Rattle.std.proofs.Common.{◌≡◌, ◌^◌, ◌<◌, drop}
use Rattle.text.specs.Digits.{digits_after}
use Rattle.text.proofs.read_digits.Given as goal

abbrev pub invariant-loop-c : goal.invariant-loop-c
invariant-loop-c l = (l.number < 16 ^ l.c-index) × (digits_after l.base l.number (drop l.c-index l.text) ≡ digits_after l.base 0 l.text)
