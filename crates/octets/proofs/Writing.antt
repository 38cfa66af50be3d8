-- Texts written one behind the other.
use Rattle.std.proofs.Common.{◌≡◌, subst, List, [], ◌++◌, ℕ, ◌+◌, take, drop, sym, refl, ap, ◌∙◌, arith, length-append}
use Rattle.std.proofs.lemmas.List.{take-append-drop}
use Rattle.octets.specs.Buffer.{put_at, begun}
use Rattle.std.specs.Borrow.{MutBor}
use Rattle.octets.specs.Writer.{Lent, Wrote}
use Rattle.octets.specs.declared.writer.Writer.{Writer}
use Rattle.octets.proofs.Buffers.{put-put, put_at_start, take-begun}

pub wrote_nothing : (w : Writer) → Wrote w [] w
wrote_nothing w =
    let here : w.end + 0 ≡ w.end = omega arith in
    let buf = w.buf.now in
    record { same = refl; room = refl; end = sym here; bytes = sym (ap (λ n. take w.end buf ++ drop n buf) here ∙ take-append-drop w.end buf) }

pub wrote_more : (a b c : Writer) (s t : List ℕ) → Wrote a s b → Wrote b t c → Wrote a (s ++ t) c
wrote_more a b c s t first second = record {
  same = second.same ∙ first.same;
  room = second.room ∙ first.room;
  end = simp length-append (omega (arith, first.end, second.end));
  bytes = second.bytes
      ∙ ap (λ buf. put_at buf b.end t) first.bytes
      ∙ put-put a.buf.now s t a.end b.end a.within (sym first.end);
}

-- The same, of a text that is the two.
pub wrote_next : (a b c : Writer) (s t u : List ℕ) → Wrote a s b → Wrote b t c → s ++ t ≡ u → Wrote a u c
wrote_next a b c s t u first second is = subst (λ text. Wrote a text c) is (wrote_more a b c s t first second)

-- What is written can be read.
pub reads_written : (buf : MutBor (List ℕ)) (a b : Writer) (s : List ℕ) → Lent buf a → Wrote a s b → take b.end b.buf.now ≡ s
reads_written buf a b s lent wrote =
    let begins : b.buf.now ≡ begun a.buf.now s =
    wrote.bytes ∙ ap (λ at. put_at a.buf.now at s) lent.nothing ∙ put_at_start a.buf.now s in
    ap (take b.end) begins ∙ take-begun a.buf.now s b.end (omega (arith, lent.nothing, wrote.end))
