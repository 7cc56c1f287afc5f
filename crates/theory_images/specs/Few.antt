-- The tree of a sound image of one of the two chips has at most 8,388,608 nodes and 536,870,912 pairs. Assumes nothing.
use Prim.Native.Nat.{ℕ, zero, suc, ◌*◌, ◌<◌, ◌≤◌}
use Rattle.std.proofs.Common.{ap, mul-le-mul_right, lit≤, length-append}
use Rattle.std.specs.Prelude.{List, [], ◌∷◌, length}
use native.Mathlib.Omega.{arith}
use Rattle.geometry.specs.declared.Geometry.{Geometry}
use Rattle.geometry.specs.declared.Entry.{Entry}
use Rattle.geometry.specs.Geometry.{large, first_slot, slots_of, half, root_slots, root_most}
use Rattle.geometry.specs.Shape.{Shape, shape_core}
use Rattle.geometry.specs.Bounds.{four_bytes}
use Rattle.model.specs.Image.{pages_of, Nodes, Chip, chip_of}
use Rattle.model.specs.Tree.{gather, places, map_of, places_of}
use Rattle.model.specs.Listing.{ranged_of}
use Rattle.theory_lists.specs.All.{All}
use Rattle.theory_nodes.specs.Entries.{Rises, rises_all}
use Rattle.theory_nodes.specs.Nodes.{Ok, Rooted, fit_of}
use Rattle.theory_nodes.specs.Between.{between_fewer, most_under, root_most_lem}
use Rattle.theory_nodes.proofs.Between.{ranged_root}
use Rattle.theory_images.specs.Held.{Held, height_most}

-- the most nodes from the one that an entry at level l names down
unfoldable pub nodes_under : (ℕ → ℕ) → ℕ → ℕ
nodes_under room zero = 0
nodes_under room (suc l) = suc (room (suc l) * nodes_under room l)

gather_few : {A : Type 0} (f : Entry → List A) (m : ℕ) (es : List Entry) → All (λ e. length (f e) ≤ m) es
    → length (gather f es) ≤ length es * m
unfolding gather
gather_few f m [] h = omega arith
gather_few f m (e ∷ es) h = let i = gather_few f m es h.1 in let w = length-append (f e) (gather f es) in
    omega (arith, i, w, h.0)

module _ (fit : ℕ → ℕ → Type 0) (room : ℕ → ℕ) (r : Nodes) where
  list_few : (l top n : ℕ) (es : List Entry) → Rises (Ok fit room r l) top es → length es ≤ n
      → ((y : ℕ) (e : Entry) → Ok fit room r l y e → length (places r l e) ≤ nodes_under room l)
      → length (gather (places r l) es) ≤ n * nodes_under room l
  list_few l top n es h few step =
      let a = gather_few (places r l) (nodes_under room l) es
      (rises_all (Ok fit room r l) (λ e. length (places r l e) ≤ nodes_under room l) top es (λ y e _ _ i. step y e i) h) in
      let b = mul-le-mul_right {m = length es} {n = n} (nodes_under room l) few in
      omega (arith, a, b)

  places_few : (l y : ℕ) (e : Entry) → Ok fit room r l y e → length (places r l e) ≤ nodes_under room l
  unfolding places Ok nodes_under
  places_few zero y e h = omega arith
  places_few (suc l) y e h = let z = list_few l y (room (suc l)) (r e.addr (suc l)) h.4 h.2 (places_few l) in
      omega (arith, z)

  root_few : (most : ℕ → ℕ) (top l p : ℕ) → Rooted fit room most top r l p
      → length (places r (suc l) (record { key = 0; addr = p })) ≤ suc (most (suc l) * nodes_under room l)
  unfolding places
  root_few most top l p h = let z = list_few l top (most (suc l)) (r p (suc l)) h.rises h.atmost (places_few l) in
      omega (arith, z)

-- the most nodes and the most pairs of a tree with l levels below its root
abbrev pub most_nodes : Geometry → ℕ → ℕ
most_nodes g l = suc (root_most g (suc l) * nodes_under (λ j. 2 * half g j) l)

abbrev pub most_pairs : Geometry → ℕ → ℕ
most_pairs g l = root_most g (suc l) * most_under (λ j. 2 * half g j) l

-- what is asked of a geometry
pub record Few (g : Geometry) : Type 0 where
  pub nodes : (l : ℕ) → l < g.top → most_nodes g l ≤ 8388608
  pub pairs : (l : ℕ) → l < g.top → most_pairs g l ≤ 536870912

module _ (g : Geometry) (shape : Shape g) (few : Few g) (n : ℕ) (img : List ℕ) (some_pages : 1 ≤ pages_of g n)
    (held : Held g n img) where
  abbrev c : Chip
  c = chip_of g n img

  low : c.level < g.top
  low = let z = height_most g (shape_core g shape) n img some_pages held in omega (arith, z)

  abbrev root : Rooted (fit_of (pages_of g n) c.er) (λ l. 2 * half g l) (root_most g) four_bytes c.nodes c.level
      c.root
  root = held.whole.sound.rooted

  pub few_places : length (places_of c) ≤ 8388608
  few_places =
      let a = root_few (fit_of (pages_of g n) c.er) (λ l. 2 * half g l) c.nodes (root_most g) four_bytes c.level c.root root in
      let b = few.nodes c.level low in
      omega (arith, a, b)

  pub few_ranged : (from to : ℕ) → length (ranged_of c from to) ≤ 536870912
  few_ranged from to =
      let is = ap length (ranged_root (fit_of (pages_of g n) c.er) (λ j. 2 * half g j) c.nodes from to c.level four_bytes c.root root.rises) in
      let a = between_fewer from to (map_of c) in
      let b = root_most_lem (fit_of (pages_of g n) c.er) (λ j. 2 * half g j) c.nodes c.level four_bytes (root_most g (suc c.level)) c.root
      root.rises root.atmost in
      let d = few.pairs c.level low in
      omega (arith, is, a, b, d)

-- ---- the two chips

pub large_nodes : (l : ℕ) → l < 7 → most_nodes large l ≤ 8388608
unfolding nodes_under root_most root_slots first_slot slots_of
large_nodes zero h = lit≤ tt
large_nodes (suc zero) h = lit≤ tt
large_nodes (suc (suc zero)) h = lit≤ tt
large_nodes (suc (suc (suc zero))) h = lit≤ tt
large_nodes (suc (suc (suc (suc zero)))) h = lit≤ tt
large_nodes (suc (suc (suc (suc (suc zero))))) h = lit≤ tt
large_nodes (suc (suc (suc (suc (suc (suc zero)))))) h = lit≤ tt
large_nodes (suc (suc (suc (suc (suc (suc (suc l))))))) h = absurd (omega (arith, h))
