-- R2, R5 and R6 of a chip; k and HEIGHT hang on the tree's counts alone. Assumes nothing.
use Rattle.std.specs.Prelude.{◌≡◌, List, [], ◌∷◌, Bool, false, length, is_none}
use Rattle.std.proofs.Math.Path.{refl, sym, subst}
use Rattle.std.proofs.Common.{ap, ◌∙◌, arith}
use Prim.Native.Nat.{ℕ, zero, suc, ◌*◌, ◌<◌, ◌≤◌}
use Rattle.geometry.specs.declared.Geometry.{Geometry}
use Rattle.geometry.specs.declared.Entry.{Entry}
use Rattle.geometry.specs.Geometry.{half, root_most}
use Rattle.geometry.specs.Shape.{Core}
use Rattle.geometry.specs.Bounds.{four_bytes}
use Rattle.model.specs.Image.{Nodes, Chip}
use Rattle.model.specs.Tree.{gather, under, Place, places, map_of, following, chosen, find, sought}
use Rattle.model.specs.Edit.{gains, splits}
use Rattle.model.specs.Update.{root_node, root_gains, needs, too_high}
use Rattle.theory_counts.specs.Cases.{true_false}
use Rattle.theory_lists.specs.All.{All}
use Rattle.theory_nodes.specs.Entries.{Rises, split}
use Rattle.theory_nodes.specs.Nodes.{Ok, Rooted, fit_of}
use Rattle.theory_trees.specs.Proper.{Proper}
use Rattle.theory_trees.specs.Seek.{find_root, root_rises}
use Rattle.theory_trees.specs.Fill.{Filled, list_nodes_like, list_filled_like}
use Rattle.theory_trees.specs.Like.{Likes, Like, like_key, likes_length, likes_chosen, gains_like, splits_like}
use Rattle.theory_chips.specs.Next.{R2}

pub some_page : (g : Geometry) → Core g → 1 ≤ g.pages
some_page g core = let z = core.pages_low in omega (arith, z)

pub record Whole (g : Geometry) (n : ℕ) (c : Chip) : Type 0 where
  pub r2 : R2 g.pages n c.er
  pub sound : Proper (fit_of (g.pages * n) c.er) (λ l. 2 * half g l) (root_most g) four_bytes c.nodes c.level
      c.root

-- lookup answers as the map does
pub sought_map : (g : Geometry) (n : ℕ) (c : Chip) → Whole g n c → (k : ℕ) → k < four_bytes → sought c k ≡ find k
    (map_of c)
sought_map g n c h k q = find_root (fit_of (g.pages * n) c.er) (λ l. 2 * half g l) c.nodes k (root_most g) four_bytes c.level c.root q
    h.sound.rooted

-- a present key: the root has entries
pub some_entry : (g : Geometry) (n : ℕ) (c : Chip) → Whole g n c → (k : ℕ) → k < four_bytes → is_none (sought c k) ≡ false
    → 0 < length (root_node c)
unfolding under gather find
some_entry g n c h k q present = go (root_node c) refl
  where
    go : (xs : List Entry) → root_node c ≡ xs → 0 < length (root_node c)
    go [] e = absurd (true_false (is_none (sought c k)) (ap is_none (sought_map g n c h k q)
        ∙ ap (λ m. is_none (find k (gather (under c.nodes c.level) m))) e) present)
    go (x ∷ xs) e = rw e (omega arith)

-- the keys of the map rise strictly
pub map_rises : (g : Geometry) (n : ℕ) (c : Chip) → Whole g n c → Rises (λ y x. Unit {0}) four_bytes (map_of c)
map_rises g n c h = root_rises (fit_of (g.pages * n) c.er) (λ l. 2 * half g l) c.nodes 0 (root_most g) four_bytes c.level c.root
    h.sound.rooted

-- the nodes below the root, and that each is at least half full
abbrev pub nodes_below : Chip → List Place
nodes_below c = gather (places c.nodes c.level) (root_node c)

abbrev pub HalfFull : Geometry → Chip → Type 0
HalfFull g c = All (Filled (half g) c.nodes) (nodes_below c)

-- c' needs as many pages as c, and is too high where c is; it has as many nodes, as many levels, and is filled where c
-- is
pub record Same (g : Geometry) (c c' : Chip) : Type 0 where
  pub needs_is : (k : ℕ) → k < four_bytes → needs g c' k ≡ needs g c k
  pub high_is : (k : ℕ) → k < four_bytes → too_high g c' k ≡ too_high g c k
  pub level_is : c'.level ≡ c.level
  pub nodes_is : length (nodes_below c') ≡ length (nodes_below c)
  pub filled_is : HalfFull g c → HalfFull g c'

pub same_self : (g : Geometry) (c : Chip) → Same g c c
same_self g c = record { needs_is = λ k q. refl; high_is = λ k q. refl; level_is = refl; nodes_is = refl; filled_is = λ h. h }

pub same_then : (g : Geometry) (c d e : Chip) → Same g c d → Same g d e → Same g c e
same_then g c d e h i = record {
  needs_is = λ k q. i.needs_is k q ∙ h.needs_is k q;
  high_is = λ k q. i.high_is k q ∙ h.high_is k q;
  level_is = i.level_is ∙ h.level_is;
  nodes_is = i.nodes_is ∙ h.nodes_is;
  filled_is = λ f. i.filled_is (h.filled_is f);
}

module _ (g : Geometry) (t : ℕ) (er er' : ℕ → Bool) (numbers numbers' : ℕ → ℕ) (r s : Nodes) (l p p' : ℕ)
    (root : Rooted (fit_of t er) (λ l. 2 * half g l) (root_most g) four_bytes r l p)
    (alike : Likes (Like r s l) (r p (suc l)) (s p' (suc l))) where
  abbrev c : Chip
  c = record { er = er; seq = numbers; nodes = r; level = l; root = p }

  abbrev c' : Chip
  c' = record { er = er'; seq = numbers'; nodes = s; level = l; root = p' }

  root_gains_lem : (k : ℕ) (absent : Bool) → k < four_bytes → (m : ℕ) → l ≡ m
      → gains r k (half g) absent l (chosen k (r p (suc l))) ≡ gains s k (half g) absent l (chosen k (s p' (suc l)))
  unfolding gains
  root_gains_lem k absent q zero e = subst (λ m. gains r k (half g) absent m (chosen k (r p (suc l))) ≡ gains s k (half g) absent m
      (chosen k (s p' (suc l)))) (sym e) refl
  root_gains_lem k absent q (suc m) e =
      let b = root.least (omega (arith, e)) in
      let sp = split (Ok (fit_of t er) (λ l. 2 * half g l) r l) k four_bytes (r p (suc l)) (omega (arith, b)) q root.rises in
      gains_like (fit_of t er) (λ l. 2 * half g l) r s k (half g) absent l (following sp.post four_bytes) (chosen k (r p (suc l)))
      (chosen k (s p' (suc l))) sp.here sp.under
      (likes_chosen (Like r s l) k (r p (suc l)) (s p' (suc l)) (like_key r s l) (omega (arith, b)) alike)

  root_splits : (k : ℕ) (absent : Bool) → k < four_bytes → (m : ℕ) → l ≡ m
      → splits r k (half g) absent l (chosen k (r p (suc l))) ≡ splits s k (half g) absent l (chosen k (s p' (suc l)))
  unfolding splits
  root_splits k absent q zero e = subst (λ m. splits r k (half g) absent m (chosen k (r p (suc l))) ≡ splits s k (half g) absent m
      (chosen k (s p' (suc l)))) (sym e) refl
  root_splits k absent q (suc m) e =
      let b = root.least (omega (arith, e)) in
      let sp = split (Ok (fit_of t er) (λ l. 2 * half g l) r l) k four_bytes (r p (suc l)) (omega (arith, b)) q root.rises in
      splits_like (fit_of t er) (λ l. 2 * half g l) r s k (half g) absent l (following sp.post four_bytes) (chosen k (r p (suc l)))
      (chosen k (s p' (suc l))) sp.here sp.under
      (likes_chosen (Like r s l) k (r p (suc l)) (s p' (suc l)) (like_key r s l) (omega (arith, b)) alike)

  pub same_like : ((k : ℕ) → k < four_bytes → sought c' k ≡ sought c k) → Same g c c'
  unfolding needs too_high root_gains
  same_like so = record {
    needs_is = λ k q. sym (rw (
      so k q,
      likes_length (Like r s l) (r p (suc l)) (s p' (suc l)) alike,
      root_splits k (is_none (sought c k)) q l refl,
      root_gains_lem k (is_none (sought c k)) q l refl,
    ) refl);
    high_is = λ k q. sym (rw (so k q, likes_length (Like r s l) (r p (suc l)) (s p' (suc l)) alike, root_gains_lem k (is_none (sought c k)) q l refl)
        refl);
    level_is = refl;
    nodes_is = sym (list_nodes_like (half g) r s l (r p (suc l)) (s p' (suc l)) alike);
    filled_is = list_filled_like (half g) r s l (r p (suc l)) (s p' (suc l)) alike;
  }
