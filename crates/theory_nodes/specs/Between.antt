-- Request 1: on nodes that keep R5 the walk between two keys gives the map's part between them. Assumes nothing.
use Rattle.std.specs.Prelude.{◌≡◌, Bool, length, take, drop}
use Rattle.std.proofs.Math.Path.{refl, sym}
use Rattle.std.proofs.Common.{ap, subst, ◌∙◌, mul-le-mul_right, length-append, take-append-drop, drop-cons, le-leb, leb-true, leb-false}
use mathlib.Core.List.{List, [], ◌∷◌, ◌++◌}
use Rattle.std.proofs.Math.Bool.{true, false}
use Prim.Native.Nat.{ℕ, zero, suc, ◌+◌, ◌*◌, ◌<◌, ◌≤◌}
use native.Mathlib.Omega.{arith}
use Rattle.std.proofs.Math.Dec.{leb}
use Rattle.std.proofs.lemmas.Bool.{lt-leb}
use Rattle.geometry.specs.declared.Entry.{Entry}
use Rattle.geometry.specs.Tests.{pick, ◌&◌}
use Rattle.model.specs.Image.{Nodes}
use Rattle.model.specs.Tree.{gather, under, following, entry_of}
use Rattle.model.specs.Listing.{between, up_to, ranged}
use Rattle.theory_lists.specs.All.{All}
use Rattle.theory_nodes.specs.Entries.{In, Rises, gather_append, rises_left, rises_right, rises_all, some_before}
use Rattle.theory_nodes.specs.Nodes.{Ok, under_in, the}
use Rattle.theory_nodes.specs.Entries.{rises_in, pre_in}

-- ---- the part between
pub between_append : (low high : ℕ) (xs ys : List Entry) → between low high (xs ++ ys) ≡ between low high
    xs ++ between low high ys
unfolding between
between_append low high [] ys = refl
between_append low high (e ∷ xs) ys = go (leb low e.key & leb e.key high) (between_append low high xs ys)
  where
    go : (t : Bool) → between low high (xs ++ ys) ≡ between low high xs ++ between low high ys
        → pick t (e ∷ between low high (xs ++ ys)) (between low high (xs ++ ys)) ≡ pick t (e ∷ between low high xs)
        (between low high xs) ++ between low high ys
    go true i = ap (λ m. e ∷ m) i
    go false i = i

-- pairs all below the low key, or all above the high one: none
pub between_below : (low high a b : ℕ) (xs : List Entry) → b ≤ low → All (In a b) xs → between low high xs ≡ []
unfolding between ◌&◌
between_below low high a b [] q h = refl
between_below low high a b (e ∷ xs) q h =
    rw (lt-leb low e.key (omega (arith, h.0, q))) (between_below low high a b xs q h.1)

pub between_above : (low high a b : ℕ) (xs : List Entry) → high < a → All (In a b) xs → between low high xs ≡ []
unfolding between ◌&◌
between_above low high a b [] q h = refl
between_above low high a b (e ∷ xs) q h =
    rw (lt-leb e.key high (omega (arith, h.0, q))) (go (leb low e.key) (between_above low high a b xs q h.1))
  where
    go : (t : Bool) → between low high xs ≡ [] → pick (t & false) (e ∷ between low high xs) (between low high xs) ≡ []
    go true i = i
    go false i = i

-- pairs all between the keys: all of them
pub between_all : (low high a b : ℕ) (xs : List Entry) → low ≤ a → b ≤ suc high → All (In a b) xs
    → between low high xs ≡ xs
unfolding between ◌&◌
between_all low high a b [] p q h = refl
between_all low high a b (e ∷ xs) p q h =
    rw (le-leb low e.key (omega (arith, h.0, p)), le-leb e.key high (omega (arith, h.0, q))) (ap (λ m. e ∷ m) (between_all low high a b xs p q h.1))

pub between_fewer : (low high : ℕ) (xs : List Entry) → length (between low high xs) ≤ length xs
unfolding between
between_fewer low high [] = omega arith
between_fewer low high (e ∷ xs) = go (leb low e.key & leb e.key high) (between_fewer low high xs)
  where
    go : (t : Bool) → length (between low high xs) ≤ length xs
        → length (pick t (e ∷ between low high xs) (between low high xs)) ≤ suc (length xs)
    go true i = omega arith
    go false i = omega arith

-- ---- the walk
module _ (fit : ℕ → ℕ → Type 0) (room : ℕ → ℕ) (r : Nodes) (low high : ℕ) where
  keeps : (l y : ℕ) (x : Entry) → x.key < y → Ok fit room r l y x → All (In x.key y) (under r l x)
  keeps l y x q i = under_in fit room r l y x q i

  -- what the walk gives of an entry that it goes down
  abbrev Right : ℕ → Type 0
  Right l = (y : ℕ) (e : Entry) → e.key < y → e.key ≤ high → Ok fit room r l y e → ranged r low high l e ≡ between low high (under r l e)

  -- from an entry on: those up to the high key, and all after it are above
  upto_ranged : (l top : ℕ) (es : List Entry) → Rises (Ok fit room r l) top es → Right l
      → gather (ranged r low high l) (up_to high es) ≡ between low high (gather (under r l) es)
  unfolding up_to gather between
  upto_ranged l top [] h step = refl
  upto_ranged l top (e ∷ es) h step = go (leb e.key high) refl (upto_ranged l top es h.2 step)
    where
      go : (t : Bool) → leb e.key high ≡ t → gather (ranged r low high l) (up_to high es) ≡ between low high
          (gather (under r l) es)
          → gather (ranged r low high l) (pick t (e ∷ up_to high es) []) ≡ between low high
          (under r l e ++ gather (under r l) es)
      go true x i = rw (i, step (following es top) e h.0 (leb-true e.key high x) h.1) (sym (between_append low high (under r l e) (gather (under r l) es)))
      go false x i = sym (between_above low high e.key top (gather (under r l) (e ∷ es)) (leb-false e.key high x)
          (rises_in low (Ok fit room r l) (under r l) (keeps l) e.key top (e ∷ es) (omega arith) h))

  -- from entry i on, where those before it are below the low key
  pub from_ranged : (l top i : ℕ) (es : List Entry) → i < length es → (0 < i → (entry_of es i).key ≤ low) → Rises (Ok fit room r l) top es → Right l
      → gather (ranged r low high l) (up_to high (drop i es)) ≡ between low high (gather (under r l) es)
  from_ranged l top i es inside before h step =
      upto_ranged l top (drop i es) (rises_right (Ok fit room r l) top (take i es) (drop i es) cut) step
      ∙ ap (λ m. m ++ between low high (gather (under r l) (drop i es))) (sym none)
      ∙ sym (between_append low high (gather (under r l) (take i es)) (gather (under r l) (drop i es)))
      ∙ ap (between low high) (sym (gather_append (under r l) (take i es) (drop i es))
      ∙ ap (gather (under r l)) (take-append-drop i es))
    where
      cut : Rises (Ok fit room r l) top (take i es ++ drop i es)
      cut = subst (Rises (Ok fit room r l) top) (sym (take-append-drop i es)) h

      at : following (drop i es) top ≡ (entry_of es i).key
      at = ap (λ (xs : List Entry). following xs top) (drop-cons es i (record { key = 0; addr = 0 }) inside)

      none : between low high (gather (under r l) (take i es)) ≡ []
      none = between_below low high 0 low (gather (under r l) (take i es)) (omega arith)
          (pre_in low (Ok fit room r l) (under r l) (keeps l) (following (drop i es) top) (take i es)
          (λ some. let w = before (some_before i es some) in omega (arith, at, w))
          (rises_left (Ok fit room r l) top (take i es) (drop i es) cut))

-- ---- how many pairs there are at most
unfoldable pub most_under : (ℕ → ℕ) → ℕ → ℕ
most_under room zero = 1
most_under room (suc l) = room (suc l) * most_under room l

gather_most : (f : Entry → List Entry) (m : ℕ) (es : List Entry) → All (λ e. length (f e) ≤ m) es
    → length (gather f es) ≤ length es * m
unfolding gather
gather_most f m [] h = omega arith
gather_most f m (e ∷ es) h = let i = gather_most f m es h.1 in let w = length-append (f e) (gather f es) in
    omega (arith, i, w, h.0)

module _ (fit : ℕ → ℕ → Type 0) (room : ℕ → ℕ) (r : Nodes) where
  list_most : (l top n : ℕ) (es : List Entry) → Rises (Ok fit room r l) top es → length es ≤ n
      → ((y : ℕ) (e : Entry) → Ok fit room r l y e → length (under r l e) ≤ most_under room l)
      → length (gather (under r l) es) ≤ n * most_under room l
  list_most l top n es h few step =
      let a = gather_most (under r l) (most_under room l) es
      (rises_all (Ok fit room r l) (λ e. length (under r l e) ≤ most_under room l) top es (λ y e _ _ i. step y e i) h) in
      let b = mul-le-mul_right {m = length es} {n = n} (most_under room l) few in
      omega (arith, a, b)

  under_most : (l y : ℕ) (e : Entry) → Ok fit room r l y e → length (under r l e) ≤ most_under room l
  unfolding under Ok most_under
  under_most zero y e h = omega arith
  under_most (suc l) y e h = list_most l y (room (suc l)) (r e.addr (suc l)) h.4 h.2 (under_most l)

  pub root_most_lem : (l top n p : ℕ) → Rises (Ok fit room r l) top (r p (suc l)) → length (r p (suc l)) ≤ n
      → length (under r (suc l) (the p)) ≤ n * most_under room l
  unfolding under
  root_most_lem l top n p h few = list_most l top n (r p (suc l)) h few (under_most l)
