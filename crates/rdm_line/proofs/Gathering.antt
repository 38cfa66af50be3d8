-- Replies that come one after the other.
use Rattle.std.proofs.Common.{◌≡◌, ℕ, ◌+◌, ◌<◌, List, ◌∷◌, ◌++◌, map, length, get_or, take, drop, sym, refl, ap, ◌∙◌, arith}
use Rattle.std.proofs.lemmas.List.{drop_more, get_or_at, length-map, length-take}
use Rattle.fixtures.specs.declared.fixture.Fixture.{Fixture}
use Rattle.rdm_line.specs.Cable.{Signal, quiet, carrying, noise, joined}
use Rattle.rdm_line.specs.Sending.{reply_to, gathered}
use Rattle.rdm_line.specs.declared.mode.Mode.{Mode}

-- The element at i is not yet changed.
still_there : {X : Type 0} (g : X → X) (xs ys : List X) (i : ℕ) (x : X) → i < length xs → ys ≡ map g (take i xs) ++ drop i xs → x ≡ get_or ys i x
    → drop i xs ≡ x ∷ drop (i + 1) xs
still_there g xs ys i x inside so_far is =
    let long : length (map g (take i xs)) ≡ i = simp (length-map, length-take) (omega arith) in
    let next = drop_more xs i x inside in
    let here = is ∙ ap (λ zs. get_or zs i x) (so_far ∙ ap (λ zs. map g (take i xs) ++ zs) next) ∙ get_or_at (map g (take i xs)) (get_or xs i x) (drop (i + 1) xs) x i long in
    next ∙ ap (λ y. y ∷ drop (i + 1) xs) (sym here)

module _ (mode : Mode) (frame : List ℕ) (g : Fixture → Fixture) (fs : List Fixture) (whole : Signal) where
  -- One more reply has come.
  pub gathered_more : (ys : List Fixture) (i : ℕ) (f : Fixture) (s t u : Signal) → i < length fs
      → ys ≡ map g (take i fs) ++ drop i fs
      → f ≡ get_or ys i f
      → t ≡ reply_to frame (get_or ys i f)
      → u ≡ joined mode s t
      → gathered mode s (map (reply_to frame) (drop i fs)) ≡ whole
      → gathered mode u (map (reply_to frame) (drop (i + 1) fs)) ≡ whole
  gathered_more ys i f s t u inside so_far is reply both before =
      let next = still_there g fs ys i f inside so_far is in
      ap (λ v. gathered mode v (map (reply_to frame) (drop (i + 1) fs))) (both ∙ ap (joined mode s) (reply ∙ ap (reply_to frame) (sym is)))
      ∙ ap (λ xs. gathered mode s (map (reply_to frame) xs)) (sym next)
      ∙ before

-- Silence changes nothing.
pub joined_quiet : (mode : Mode) (s : Signal) → joined mode s quiet ≡ s
joined_quiet mode quiet = refl
joined_quiet mode (carrying bytes sender) = refl
joined_quiet mode noise = refl
