-- R5 and R6 together, after an insertion, a deletion and a move. Assumes nothing.
use Rattle.std.specs.Prelude.{◌≡◌, List, [], ◌∷◌, ◌⊎◌, length}
use Rattle.std.proofs.Math.Path.{refl}
use Rattle.std.proofs.Common.{subst, ◌∙◌, arith}
use Prim.Native.Nat.{ℕ, zero, suc, ◌*◌, ◌<◌, ◌≤◌}
use Rattle.geometry.specs.declared.Entry.{Entry}
use Rattle.model.specs.Image.{Nodes}
use Rattle.model.specs.Tree.{under, Place, places, following, chosen}
use Rattle.model.specs.Edit.{splice, remove, remove_in, collapse}
use Rattle.theory_lists.specs.All.{All, Mem, all_map, all_get, all_mem}
use Rattle.theory_nodes.specs.Entries.{Rises, gather_all, rises_all}
use Rattle.theory_nodes.specs.Nodes.{Ok, places_fit, the, Rooted, rooted_with}
use Rattle.theory_trees.specs.Edit.{edit, at_root}
use Rattle.theory_nodes.specs.Entries.{first_below}
use Rattle.theory_trees.specs.Delete.{deleted, DeleteMade, delete_made_lem, less_pairs, less_ok, the_top, collapse_pairs, collapse_ok}
use Rattle.theory_nodes.specs.Tied.{Tied}
use Rattle.theory_trees.specs.Tied.{Where, tied_new, live_tied}
use Rattle.theory_trees.specs.DeletePages.{left_low_of, less_where, collapse_where}

-- the tree with its root at page p, l levels above a leaf, keeps R5 and R6
pub record Proper (fit : ℕ → ℕ → Type 0) (room most : ℕ → ℕ) (top : ℕ) (r : Nodes) (l p : ℕ) : Type 0 where
  pub rooted : Rooted fit room most top r l p
  pub tied : Tied r (places r (suc l) (the p))

abbrev pub LiveAt : List Place → ℕ → ℕ → Type 0
LiveAt spots zero q = Unit {0}
LiveAt spots (suc l) q = Mem (record { page = q; level = suc l }) spots

mem_at : (spots : List Place) (q j : ℕ) → Mem (record { page = q; level = j }) spots → LiveAt spots j q
mem_at spots q zero m = tt
mem_at spots q (suc j) m = m

pub at_mem : (spots : List Place) (q j : ℕ) → 1 ≤ j → LiveAt spots j q → Mem (record { page = q; level = j }) spots
at_mem spots q zero b m = absurd (omega arith)
at_mem spots q (suc j) b m = m

pub with_live : (fit : ℕ → ℕ → Type 0) (room most : ℕ → ℕ) (top : ℕ) (r : Nodes) (l p : ℕ)
    → Rooted fit room most top r l p
    → Rooted (λ j q. fit j q × LiveAt (places r (suc l) (the p)) j q) room most top r l p
with_live fit room most top r l p h = let spots = places r (suc l) (the p) in
    rooted_with fit room most top r (LiveAt spots) l p (λ _. tt) (all_map (λ x. Mem x spots) (λ x. LiveAt spots x.level x.page) spots
    (λ x m. mem_at spots x.page x.level m) (all_mem spots)) h

module _ (n top : ℕ) (half most : ℕ → ℕ) (r s : Nodes) (fit fit' : ℕ → ℕ → Type 0) (fit_n : (l : ℕ) → fit' (suc l) n)
    (keep : (l b : ℕ) → fit l b → fit' l b) (same : (q l : ℕ) → fit (suc l) q → s q (suc l) ≡ r q (suc l))
    (new-n : (l : ℕ) → fit (suc l) n → ⊥) where
  abbrev room_at : ℕ → ℕ
  room_at l = 2 * half l

  -- the new tree keeps R6
  pub retied : (side : ℕ → ℕ) (Cut : ℕ → Type 0) (side-n : (l : ℕ) → Cut l → side l ≡ n → ⊥)
      (side_inj : (i j : ℕ) → Cut i → Cut j → side i ≡ side j → i ≡ j) (new_side : (l j : ℕ) → Cut l
      → fit (suc j) (side l) → ⊥)
      (spots : List Place) → Tied r spots → (low : ℕ) (new : List Place) → All (Where s n low side Cut
      (λ x. (1 ≤ x.level) × (fit x.level x.page × LiveAt spots x.level x.page))) new → Tied s new
  retied side Cut side-n side_inj new_side spots t low new h =
      tied_new s n low side Cut Old (λ x o e. not_n x.page x.level o.0 o.1.0 e)
      (λ x l o c e. not_side l x.page x.level c o.0 o.1.0 e) side-n side_inj
      (λ x y o o' e b. live_tied r s spots t fit same x y (at_mem spots x.page x.level o.0 o.1.1, o.1.0)
      (at_mem spots y.page y.level o'.0 o'.1.1, o'.1.0) e b) new h
    where
      Old : Place → Type 0
      Old x = (1 ≤ x.level) × (fit x.level x.page × LiveAt spots x.level x.page)

      not_n : (q j : ℕ) → 1 ≤ j → fit j q → q ≡ n → ⊥
      not_n q zero b h e = omega arith
      not_n q (suc j) b h e = new-n j (subst (fit (suc j)) e h)

      not_side : (l q j : ℕ) → Cut l → 1 ≤ j → fit j q → q ≡ side l → ⊥
      not_side l q zero c b h e = omega arith
      not_side l q (suc j) c b h e = new_side l j c (subst (fit (suc j)) e h)

  module _ (k : ℕ) (k_top : k < top) where
    abbrev root_less : ℕ → ℕ → List Entry
    root_less l p = at_root (remove_in k) (deleted r k n l) k l (r p (suc l))

    pub less_is : (l : ℕ) (es : List Entry) → 0 < length es → Rises (Ok fit room_at r l) top es
        → at_root (remove_in k) (deleted r k n l) k l es ≡ splice (deleted r k n l) k es
    unfolding at_root edit remove_in
    less_is zero es c h = refl
    less_is (suc l) es c h = refl

    pub delete_stay : (l p : ℕ) → Proper fit room_at most top r l p → 0 < length (r p (suc l)) → DeleteMade r s k n l
        (chosen k (r p (suc l)))
        → s n (suc l) ≡ root_less l p → (1 ≤ l → 2 ≤ length (root_less l p))
        → Proper fit' room_at most top s l n × (under s (suc l) (the n) ≡ remove k (under r (suc l) (the p)))
    delete_stay l p h c m e b =
        let spots = places r (suc l) (the p) in
        let laid = delete_made_lem r s k n fit' fit_n l (chosen k (r p (suc l))) m in (
          record {
            rooted = less_ok k (λ _. n) top half most r s fit fit' keep same k_top l p h.rooted laid e (fit_n l) b;
            tied = retied (λ _. 0) (λ _. ⊥) (λ l z _. z) (λ i j z _ _. absurd z) (λ l j z _. z) spots h.tied (left_low_of r k n l (r p (suc l)))
                (places s (suc l) (the n))
                (less_where k n top half most r s (λ j q. fit j q × LiveAt spots j q) fit' (λ l b i. keep l b i.0)
                (λ q l i. same q l i.0) k_top l p (with_live fit room_at most top r l p h.rooted) c m
                (e ∙ less_is l (r p (suc l)) c h.rooted.rises));
          },
          less_pairs k (λ _. n) top half most r s fit fit' keep same k_top l p h.rooted laid e,
        )

    pub delete_collapse : ((j : ℕ) → room_at j ≤ most j) → (l p : ℕ) → Proper fit room_at most top r (suc l) p
        → DeleteMade r s k n (suc l) (chosen k (r p (suc (suc l)))) → length (root_less (suc l) p) ≡ 1
        → s n (suc (collapse r (suc l) (root_less (suc l) p)).level) ≡ (collapse r (suc l) (root_less (suc l) p)).list
        → Proper fit' room_at most top s (collapse r (suc l) (root_less (suc l) p)).level n ×
        (under s (suc (collapse r (suc l) (root_less (suc l) p)).level) (the n) ≡ remove k (under r (suc (suc l)) (the p)))
    delete_collapse wide l p h m one e =
        let spots = places r (suc (suc l)) (the p) in
        let t = collapse r (suc l) (root_less (suc l) p) in
        let laid = delete_made_lem r s k n fit' fit_n (suc l) (chosen k (r p (suc (suc l)))) m in
        let fit_live : ℕ → ℕ → Type 0 = λ j q. fit j q × LiveAt spots j q in (
          record {
            rooted = collapse_ok k (λ _. n) top half most r s fit fit' keep same k_top wide l p h.rooted laid one e
                (fit_n t.level);
            tied = retied (λ _. 0) (λ _. ⊥) (λ l z _. z) (λ i j z _ _. absurd z) (λ l j z _. z) spots h.tied (suc t.level)
                (places s (suc t.level) (the n))
                (collapse_where k n top half most r s fit_live fit' (λ l b i. keep l b i.0) (λ q l i. same q l i.0) k_top t.level t.list
                (the_top k (λ _. n) top half most r s fit_live fit' (λ l b i. keep l b i.0) (λ q l i. same q l i.0) k_top wide l p
                (with_live fit room_at most top r (suc l) p h.rooted) laid one e).rises e);
          },
          collapse_pairs k (λ _. n) top half most r s fit fit' keep same k_top wide l p h.rooted laid one e,
        )

-- every place's level, and the first key of its node
pub all_any : {A : Type 0} (P : A → Type 0) (xs : List A) → ((x : A) → P x) → All P xs
all_any P [] f = tt
all_any P (x ∷ xs) f = (f x, all_any P xs f)

pub places_level : (r : Nodes) (l : ℕ) (e : Entry) → All (λ x. (1 ≤ x.level) × (x.level ≤ l)) (places r l e)
unfolding places
places_level r zero e = tt
places_level r (suc l) e = (
  omega arith,
  gather_all (λ x. (1 ≤ x.level) × (x.level ≤ suc l)) (places r l) (r e.addr (suc l))
      (all_any (λ x. All (λ x. (1 ≤ x.level) × (x.level ≤ suc l)) (places r l x)) (r e.addr (suc l))
      (λ x. all_map (λ x. (1 ≤ x.level) × (x.level ≤ l)) (λ x. (1 ≤ x.level) × (x.level ≤ suc l)) (places r l x) (λ x i. omega (arith, i))
      (places_level r l x))),
)

places_first : (fit : ℕ → ℕ → Type 0) (room : ℕ → ℕ) (r : Nodes) (l y top : ℕ) (e : Entry) → y ≤ top
    → Ok fit room r l y e
    → All (λ x. following (r x.page x.level) 0 < top) (places r l e)
unfolding places Ok
places_first fit room r zero y top e q h = tt
places_first fit room r (suc l) y top e q h = (
  omega (arith, first_below (Ok fit room r l) y (r e.addr (suc l)) h.1 h.4, q),
  gather_all (λ x. following (r x.page x.level) 0 < top) (places r l) (r e.addr (suc l))
      (rises_all (Ok fit room r l) (λ x. All (λ x. following (r x.page x.level) 0 < top) (places r l x)) y (r e.addr (suc l))
      (λ y' x _ b i. places_first fit room r l y' top x (omega arith) i) h.4),
)

first_any : (P : ℕ → Entry → Type 0) (y : ℕ) (es : List Entry) → 0 < y → Rises P y es → following es 0 < y
first_any P y [] q h = q
first_any P y (e ∷ es) q h = first_below P y (e ∷ es) (omega arith) h

pub root_first : (fit : ℕ → ℕ → Type 0) (room most : ℕ → ℕ) (r : Nodes) (l p top : ℕ) → 0 < top
    → Rooted fit room most top r l p
    → All (λ x. following (r x.page x.level) 0 < top) (places r (suc l) (the p))
unfolding places
root_first fit room most r l p top q h = (
  first_any (Ok fit room r l) top (r p (suc l)) q h.rises,
  gather_all (λ x. following (r x.page x.level) 0 < top) (places r l) (r p (suc l))
      (rises_all (Ok fit room r l) (λ x. All (λ x. following (r x.page x.level) 0 < top) (places r l x)) top (r p (suc l))
      (λ y' x _ b i. places_first fit room r l y' top x b i) h.rises),
)

pub root_fit : (fit : ℕ → ℕ → Type 0) (room most : ℕ → ℕ) (r : Nodes) (l p top : ℕ) → Rooted fit room most top r l p
    → All (λ x. (1 ≤ x.level) × fit x.level x.page) (places r (suc l) (the p))
unfolding places
root_fit fit room most r l p top h = (
  (omega arith, h.fits),
  gather_all (λ x. (1 ≤ x.level) × fit x.level x.page) (places r l) (r p (suc l))
      (rises_all (Ok fit room r l) (λ x. All (λ x. (1 ≤ x.level) × fit x.level x.page) (places r l x)) top (r p (suc l))
      (λ y' x _ b i. places_fit fit room r l y' x i) h.rises),
)

-- a move of page p, whose left_low live level is a
module _ (p a n top : ℕ) (half most : ℕ → ℕ) (r s : Nodes) (fit fit' : ℕ → ℕ → Type 0)
    (fit_n : (l : ℕ) → fit' (suc l) n)
    (keep : (l b : ℕ) → fit l b → fit' l b) (same : (q l : ℕ) → fit (suc l) q → s q (suc l) ≡ r q (suc l))
    (new-n : (l : ℕ) → fit (suc l) n → ⊥)
    (l p₀ : ℕ) (h : Proper fit (λ l. 2 * half l) most top r l p₀) (m : Mem (record { page = p; level = a }) (places r (suc l) (the p₀)))
    (low : All (λ x. x.page ≡ p → a ≤ x.level) (places r (suc l) (the p₀))) where
  abbrev room_at' : ℕ → ℕ
  room_at' l = 2 * half l

  abbrev spots : List Place
  spots = places r (suc l) (the p₀)

  abbrev k₁ : ℕ
  k₁ = following (r p a) 0

  pub k_top : 0 < length (r p₀ (suc l)) → k₁ < top
  k_top c = all_get (λ x. following (r x.page x.level) 0 < top) (record { page = p; level = a }) spots
      (root_first fit room_at' most r l p₀ top (let z = first_below (Ok fit room_at' r l) top (r p₀ (suc l)) c h.rooted.rises in omega (arith, z))
      h.rooted) m

  abbrev fit_live : ℕ → ℕ → Type 0
  fit_live j q = fit j q × LiveAt spots j q

  pub record Moved : Type 0 where
    pub sound : Proper fit' room_at' most top s l n
    pub pairs_are : under s (suc l) (the n) ≡ under r (suc l) (the p₀)
    pub dead : All (λ x. x.page ≡ p → ⊥) (places s (suc l) (the n))
    pub within : All (λ x. (x.page ≡ n) ⊎ Mem x spots) (places s (suc l) (the n))
