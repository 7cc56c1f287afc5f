-- R5 below the root over any nodes: `fit` says which addresses may stand at a level, `room` how many entries.
-- What is known of a page's address frames it: a page that fits keeps its content. Assumes nothing.
use Rattle.std.specs.Prelude.{◌≡◌, List, [], ◌∷◌, Bool, false, length}
use Rattle.std.proofs.Math.Path.{refl}
use Rattle.std.proofs.Common.{ap}
use Prim.Native.Nat.{ℕ, zero, suc, ◌<◌, ◌≤◌}
use native.Mathlib.Omega.{arith}
use Rattle.geometry.specs.declared.Entry.{Entry}
use Rattle.model.specs.Image.{Nodes}
use Rattle.model.specs.Tree.{under, places, following}
use Rattle.theory_lists.specs.All.{All}
use Rattle.theory_nodes.specs.Entries.{In, Rises, gather_eq, gather_all, all_gather, rises_map, rises_all, rises_both, rises_more, gather_in}

-- R5 below the root: fit says which addresses may stand (level 0: the caller's; above: pages below T, programmed)
unfoldable pub Ok : (ℕ → ℕ → Type 0) → (ℕ → ℕ) → Nodes → ℕ → ℕ → Entry → Type 0
Ok fit room r zero hi e = fit 0 e.addr
Ok fit room r (suc l) hi e = fit (suc l) e.addr × (1 ≤ length (r e.addr (suc l))) × (length (r e.addr (suc l)) ≤ room (suc l)) ×
    (e.key ≤ following (r e.addr (suc l)) hi) × Rises (Ok fit room r l) hi (r e.addr (suc l))

pub next_more : (hi hi' : ℕ) (es : List Entry) → 1 ≤ length es → following es hi ≡ following es hi'
next_more hi hi' [] n = absurd (omega arith)
next_more hi hi' (e ∷ es) n = refl

-- a page that fits keeps its content
pub node_same : (fit : ℕ → ℕ → Type 0) (r s : Nodes) → ((q l : ℕ) → fit (suc l) q → s q (suc l) ≡ r q (suc l))
    → (q l : ℕ) → 1 ≤ l → fit l q
    → s q l ≡ r q l
node_same fit r s same q zero b h = absurd (omega arith)
node_same fit r s same q (suc l) b h = same q l h

module _ (fit : ℕ → ℕ → Type 0) (room : ℕ → ℕ) where
  pub ok_fit : (r : Nodes) (l hi : ℕ) (e : Entry) → Ok fit room r l hi e → fit l e.addr
  unfolding Ok
  ok_fit r zero hi e h = h
  ok_fit r (suc l) hi e h = h.0

  -- a higher bound is a weaker one
  pub ok_more : (r : Nodes) (l hi hi' : ℕ) (e : Entry) → hi ≤ hi' → Ok fit room r l hi e → Ok fit room r l hi' e
  unfolding Ok
  ok_more r zero hi hi' e q h = h
  ok_more r (suc l) hi hi' e q h = (
    h.0,
    h.1,
    h.2,
    rw (next_more hi hi' (r e.addr (suc l)) h.1) at h.3,
    rises_more (Ok fit room r l)
        (Ok fit room r l) hi hi' (r e.addr (suc l)) q (λ y y' x _ z i. ok_more r l y y' x z i) h.4,
  )

  -- the pairs under an entry keep its bounds
  pub under_in : (r : Nodes) (l hi : ℕ) (e : Entry) → e.key < hi → Ok fit room r l hi e → All (In e.key hi)
      (under r l e)
  unfolding Ok under
  under_in r zero hi e q h = (omega arith, tt)
  under_in r (suc l) hi e q h = gather_in (under r l) e.key hi (r e.addr (suc l)) h.3
      (rises_map (Ok fit room r l) (λ y x. All (In x.key y) (under r l x)) hi (r e.addr (suc l)) (λ y x k _ i. under_in r l y x k i) h.4)

  -- every place's page fits
  pub places_fit : (r : Nodes) (l hi : ℕ) (e : Entry) → Ok fit room r l hi e
      → All (λ x. (1 ≤ x.level) × fit x.level x.page) (places r l e)
  unfolding Ok places
  places_fit r zero hi e h = tt
  places_fit r (suc l) hi e h = (
    (omega arith, h.0),
    gather_all (λ x. (1 ≤ x.level) × fit x.level x.page) (places r l) (r e.addr (suc l))
        (rises_all (Ok fit room r l) (λ x. All (λ x. (1 ≤ x.level) × fit x.level x.page) (places r l x)) hi (r e.addr (suc l))
        (λ y x _ _ i. places_fit r l y x i) h.4),
  )

  -- the frame: what fits keeps its content
  module _ (fit' : ℕ → ℕ → Type 0) (r s : Nodes) (keep : (l a : ℕ) → fit l a → fit' l a)
      (same : (p l : ℕ) → fit (suc l) p → s p (suc l) ≡ r p (suc l)) where
    pub ok_same : (l hi : ℕ) (e : Entry) → Ok fit room r l hi e → Ok fit' room s l hi e
    unfolding Ok
    ok_same zero hi e h = keep 0 e.addr h
    ok_same (suc l) hi e h = rw (same e.addr l h.0) (
      keep (suc l) e.addr h.0,
      h.1,
      h.2,
      h.3,
      rises_map (Ok fit room r l)
          (Ok fit' room s l) hi (r e.addr (suc l)) (λ y x _ _ i. ok_same l y x i) h.4,
    )

    pub under_same : (l hi : ℕ) (e : Entry) → Ok fit room r l hi e → under s l e ≡ under r l e
    unfolding Ok under
    under_same zero hi e h = refl
    under_same (suc l) hi e h = rw (same e.addr l h.0) (gather_eq (under r l) (under s l) (r e.addr (suc l))
        (rises_all (Ok fit room r l) (λ x. under s l x ≡ under r l x) hi (r e.addr (suc l)) (λ y x _ _ i. under_same l y x i) h.4))

    pub places_same : (l hi : ℕ) (e : Entry) → Ok fit room r l hi e → places s l e ≡ places r l e
    unfolding Ok places
    places_same zero hi e h = refl
    places_same (suc l) hi e h = rw (same e.addr l h.0) (ap (λ m. record { page = e.addr; level = suc l } ∷ m)
        (gather_eq (places r l) (places s l) (r e.addr (suc l)) (rises_all (Ok fit room r l) (λ x. places s l x ≡ places r l x) hi
        (r e.addr (suc l)) (λ y x _ _ i. places_same l y x i) h.4)))

  -- R5 with a further fact of every place's page
  pub ok_with : (Z : ℕ → ℕ → Type 0) (r : Nodes) (l hi : ℕ) (e : Entry) → ((a : ℕ) → Z 0 a)
      → All (λ x. Z x.level x.page) (places r l e)
      → Ok fit room r l hi e → Ok (λ l a. fit l a × Z l a) room r l hi e
  unfolding Ok places
  ok_with Z r zero hi e z a h = (h, z e.addr)
  ok_with Z r (suc l) hi e z a h = (
    (h.0, a.0),
    h.1,
    h.2,
    h.3,
    rises_map (λ y x. Ok fit room r l y x × All (λ p. Z p.level p.page) (places r l x)) (Ok (λ l a. fit l a × Z l a) room r l) hi
        (r e.addr (suc l)) (λ y x _ _ i. ok_with Z r l y x z i.1 i.0)
        (rises_both (Ok fit room r l) (λ x. All (λ p. Z p.level p.page) (places r l x)) hi (r e.addr (suc l)) h.4
        (all_gather (λ p. Z p.level p.page) (places r l) (r e.addr (suc l)) a.1)),
  )

-- the root as an entry
abbrev pub the : ℕ → Entry
the p = record { key = 0; addr = p }

-- R5 at the root, l levels above a leaf
pub record Rooted (fit : ℕ → ℕ → Type 0) (room most : ℕ → ℕ) (top : ℕ) (r : Nodes) (l p : ℕ) : Type 0 where
  pub fits : fit (suc l) p
  pub least : 1 ≤ l → 2 ≤ length (r p (suc l))
  pub atmost : length (r p (suc l)) ≤ most (suc l)
  pub rises : Rises (Ok fit room r l) top (r p (suc l))

pub rooted_with : (fit : ℕ → ℕ → Type 0) (room most : ℕ → ℕ) (top : ℕ) (r : Nodes) (Z : ℕ → ℕ → Type 0) (l p : ℕ)
    → ((a : ℕ) → Z 0 a)
    → All (λ x. Z x.level x.page) (places r (suc l) (record { key = 0; addr = p }))
    → Rooted fit room most top r l p
    → Rooted (λ l a. fit l a × Z l a) room most top r l p
unfolding places
rooted_with fit room most top r Z l p z a h =
    record {
      fits = (h.fits, a.0);
      least = h.least;
      atmost = h.atmost;
      rises = rises_map (λ y x. Ok fit room r l y x × All (λ p. Z p.level p.page) (places r l x)) (Ok (λ l a. fit l a × Z l a) room r l) top
          (r p (suc l)) (λ y x _ _ i. ok_with fit room Z r l y x z i.1 i.0)
          (rises_both (Ok fit room r l) (λ x. All (λ p. Z p.level p.page) (places r l x)) top (r p (suc l)) h.rises
          (all_gather (λ p. Z p.level p.page) (places r l) (r p (suc l)) a.1));
    }

-- what the rules ask of an address at a level: above the pairs a programmed page below T
abbrev pub fit_of : ℕ → (ℕ → Bool) → ℕ → ℕ → Type 0
fit_of t er zero q = Unit {0}
fit_of t er (suc l) q = (q < t) × (er q ≡ false)

pub fit_page : (t : ℕ) (er : ℕ → Bool) (l q : ℕ) → 1 ≤ l → fit_of t er l q → (q < t) × (er q ≡ false)
fit_page t er zero q b h = absurd (omega arith)
fit_page t er (suc l) q b h = h
