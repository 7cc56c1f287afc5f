-- An insertion's own stores on bytes: the other halves, lower level first, then N. Assumes nothing.
use Rattle.std.specs.Prelude.{◌≡◌, Bool, true, false, length, leb, is_none}
use Rattle.std.proofs.Math.Path.{refl, ap, sym, subst}
use Rattle.std.proofs.Common.{◌∙◌}
use mathlib.Core.List.{List, [], ◌∷◌, ◌++◌, append-nil}
use Prim.Native.Nat.{ℕ, zero, suc, ◌+◌, ◌-◌, ◌*◌, ◌<◌, ◌≤◌, min}
use native.Mathlib.Omega.{arith}
use borrow.Author.Tests.{le-leb, lt-leb, eq-eqb, ne_eqb}
use Rattle.geometry.specs.declared.Geometry.{Geometry}
use Rattle.geometry.specs.declared.Entry.{Entry}
use Rattle.geometry.specs.Tests.{pick, bit}
use Rattle.geometry.specs.Geometry.{half}
use Rattle.geometry.specs.Shape.{Shape, shape_core}
use Rattle.geometry.specs.Bounds.{four_bytes}
use Rattle.model.specs.Count.{count, peak}
use Rattle.model.specs.Image.{pages_of, max_seq, Chip, chip_of}
use Rattle.model.specs.Tree.{map_of, places_of, live, chosen, sought}
use Rattle.model.specs.Next.{Ahead, ahead, next_page, after, onward, taken}
use Rattle.model.specs.Page.{built, only}
use Rattle.model.specs.Stores.{Store, program, apply_store, apply_all, programs}
use Rattle.model.specs.Edit.{put, side_half, splits}
use Rattle.model.specs.Update.{root_node, fills, needs, too_high, insert_list, side_store, split_store, side_stores, crown_store, crown_height, side_page, own_stores}
use Rattle.theory_counts.specs.Tally.{bit_most}
use Rattle.chip_store.specs.Runs.{all_append, programs_append}
use Rattle.theory_counts.specs.Cases.{by_eq, by_le, by_test}
use Rattle.theory_lists.specs.All.{All}
use Rattle.theory_nodes.specs.Nodes.{fit_of}
use Rattle.theory_chips.specs.Next.{R2, step}
use Rattle.theory_chips.specs.Whole.{some_page, Whole}
use Rattle.theory_chips.specs.Collect.{R8}
use Rattle.theory_chips.specs.Pages.{side_erased, side_inj, new_side}
use Rattle.theory_chips.specs.Insertion.{side_list, main_list, cut_levels, needs_is, cuts_le, grow_all, Fuller}
use Rattle.theory_chips.proofs.Insertion.{insert_done}
use Rattle.live_beside.specs.Update.{insert_crest}
use Rattle.theory_images.specs.Bytes.{Fits}
use Rattle.theory_images.specs.Views.{rooted, beside}
use Rattle.theory_images.specs.Page.{in_table_lem}
use Rattle.theory_images.specs.Built.{built_view}
use Rattle.theory_images.specs.Small.{node_fits}
use Rattle.theory_images.specs.Held.{height_most}
use Rattle.theory_images.specs.Writes.{next_store, ahead_beside}
use Rattle.theory_images.proofs.Writes.{put_max}
use Rattle.theory_updates.specs.Along.{Keeps, Runs, runs_end, runs_none, runs_then, runs_as, side_runs}
use Rattle.theory_updates.specs.Contents.{side_parts}
use Rattle.theory_updates.specs.Topped.{topped}
use Rattle.theory_updates.specs.Updated.{Stands}

-- the chip d after the other halves of levels 1 to i, from the chip c
pub record Laid (g : Geometry) (n : ℕ) (c : Chip) (k a i : ℕ) (d : Chip) : Type 0 where
  pub ahead_is : ahead g n d ≡ taken g.pages n (ahead g n c) i
  pub sides : (j : ℕ) → 1 ≤ j → j ≤ i → d.nodes (side_page g n c j) j ≡ side_list g n c k a j
  pub stays : (q l : ℕ) → fit_of (g.pages * n) c.er (suc l) q → d.nodes q (suc l) ≡ c.nodes q (suc l)

-- stores that lay them
pub record Sided (g : Geometry) (n : ℕ) (base : List Entry) (img : List ℕ) (k a i : ℕ) (ss : List Store) : Type 0 where
  pub chip : Chip
  pub runs : Runs g n base img ss chip i 0
  pub laid : Laid g n (chip_of g n img) k a i chip
  pub max_is : max_seq g n (apply_all g ss img) ≡ max_seq g n img + i

-- the chip e after an insertion of m pages into c: its nodes, and where its root stands
pub record Inserted (g : Geometry) (n : ℕ) (c : Chip) (m k a : ℕ) (e : Chip) : Type 0 where
  pub fuller : Fuller g m c e
  pub stands : Stands g n c m (insert_crest g c (side_page g n c) m k a) e

module _ (g : Geometry) (shape : Shape g) (n : ℕ) (few : pages_of g n + g.pages < four_bytes) (k a : ℕ)
    (k_low : k < four_bytes)
    (a-low : a < four_bytes)
    (base : List Entry) (img : List ℕ) (keeps : Keeps g n base img) (not-high : too_high g (chip_of g n img) k ≡ false)
    (room : g.pages + needs g (chip_of g n img) k ≤ count (pages_of g n) (chip_of g n img).er)
    (low : max_seq g n img + needs g (chip_of g n img) k < 4294967295)
    (space : count (pages_of g n) (live (places_of (chip_of g n img))) + (2 * g.pages + needs g (chip_of g n img) k) ≤ suc (pages_of g n)) where
  abbrev c : Chip
  c = chip_of g n img

  abbrev t : ℕ
  t = pages_of g n

  abbrev m : ℕ
  m = needs g c k

  abbrev side : ℕ → ℕ
  side = side_page g n c

  abbrev N : ℕ
  N = side m

  abbrev lists : ℕ → List Entry
  lists = insert_list g c k a N side

  abbrev seq : ℕ
  seq = max_seq g n img

  abbrev whole : Whole g n c
  whole = keeps.held.whole

  abbrev cuts : ℕ
  cuts = splits c.nodes k (half g) (is_none (sought c k)) c.level (chosen k (root_node c))

  abbrev grows : Bool
  grows = fills g (suc c.level) (length (lists (suc c.level)))

  pub m_is : m ≡ suc (cuts + bit grows)
  m_is = needs_is g shape n k a k_low c whole

  cut_le : cuts ≤ c.level
  cut_le = cuts_le g shape n k a k_low c whole

  free : m ≤ count t c.er
  free = omega (arith, room)

  pub high : suc c.level ≤ g.top
  high = height_most g (shape_core g shape) n img (let z = (side_erased g (shape_core g shape) n c whole.r2 m free m
      (omega (arith, m_is)) (omega arith)).1 in omega (arith, z))
      keeps.held

  pub all_fit : (q l : ℕ) → All Fits (c.nodes q l)
  all_fit = node_fits g img keeps.held.bytes

  -- ---- one other half more
  module _ (i : ℕ) (lt : suc i < m) (d : Chip) (laid : Laid g n c k a i d) (s : ℕ) where
    abbrev parts : ℕ → List Entry
    parts = only (suc i) (side_list g n c k a (suc i))

    abbrev d' : Chip
    d' = beside d (next_page g.pages n (ahead g n d)) (built_view g s 0 parts)

    pub next_side : next_page g.pages n (ahead g n d) ≡ side (suc i)
    next_side = ap (next_page g.pages n) laid.ahead_is

    top : suc i ≤ g.top
    top = by_test grows (λ e. let u = grow_all g shape n k a k_low c whole e in
        omega (arith, lt, m_is, cut_le, u.0, bit_most grows))
        (λ e. omega (arith, lt, m_is, cut_le, high, ap bit e))

    here : (q : ℕ) → q ≡ side (suc i) → d'.nodes q (suc i) ≡ side_list g n c k a (suc i)
    unfolding beside
    here q e = rw (
      eq-eqb q (next_page g.pages n (ahead g n d)) (e ∙ sym next_side),
      in_table_lem g (suc i) (omega arith) top,
      eq-eqb (suc i)
          (suc i) refl,
    ) refl

    there : (q j : ℕ) → (q ≡ side (suc i) → ⊥) → d'.nodes q j ≡ d.nodes q j
    unfolding beside
    there q j e = rw (ne_eqb q (next_page g.pages n (ahead g n d)) (λ z. e (z ∙ next_side))) refl

    next_in : next_page g.pages n (ahead g n d) < t
    next_in = let z = (side_erased g (shape_core g shape) n c whole.r2 m free (suc i) (omega arith) (omega (arith, lt))).1 in omega (arith, z, next_side)

    pub laid_more : s ≡ suc (peak t d.seq) → Laid g n c k a (suc i) d'
    unfolding taken
    laid_more num = record {
      ahead_is = ahead_beside g n d (next_page g.pages n (ahead g n d)) (built_view g s 0 parts) next_in num
          ∙ ap (λ (x : Ahead). onward (next_page g.pages n x) x) laid.ahead_is;
      sides = λ j b q. by_eq j (suc i) (λ e. rw e (here (side (suc i)) refl))
          (λ e. there (side j) j (λ z. e (side_inj g (shape_core g shape) n c whole.r2 m free j (suc i) b (omega (arith, q, lt)) (omega arith)
          (omega (arith, lt)) z)) ∙ laid.sides j b (omega (arith, q, e)));
      stays = λ q l h. there q (suc l) (λ z. new_side g (shape_core g shape) n c whole.r2 m free (suc i) l (omega arith) (omega (arith, lt))
          (subst (fit_of (g.pages * n) c.er (suc l)) z h)) ∙ laid.stays q l h;
    }

  -- the pages left after i are taken
  pub left : (i : ℕ) → i ≤ m → count t (taken g.pages n (ahead g n c) i).er + i ≡ count t c.er
  left i q = let z = (step g.pages n (ahead g n c) (some_page g (shape_core g shape)) whole.r2 i (omega (arith, q, free))).left in omega (arith, z)

  pub next_is : (h l : ℕ) (parts : ℕ → List Entry) (x : List ℕ) → next_page g.pages n (ahead g n (chip_of g n x)) ≡ side l
      → suc (max_seq g n x) ≡ seq + l
      → program (side l) (built g (seq + l) h parts) ≡ next_store g n h parts x
  unfolding next_store
  next_is h l parts x e f = ap (λ p. program p (built g (seq + l) h parts)) (sym e)
      ∙ ap (λ q. program (next_page g.pages n (ahead g n (chip_of g n x))) (built g q h parts)) (sym f)

  number : (x : List ℕ) → suc (max_seq g n x) ≡ suc (peak t (chip_of g n x).seq)
  unfolding max_seq
  number x = refl

  side_step : (i : ℕ) (ss : List Store) → suc i < m → Sided g n base img k a i ss
      → Sided g n base img k a (suc i) (ss ++ (side_store g seq side (suc i) (side_list g n c k a (suc i)) ∷ []))
  unfolding side_store apply_all
  side_step i ss lt s =
      let x = apply_all g ss img in
      let p = only (suc i) (side_list g n c k a (suc i)) in
      let z = runs_end g n base img ss s.chip i 0 s.runs in
      let ci = s.runs.chip_is in
      let ok = side_parts g shape n few k a k_low a-low c whole all_fit high not-high (suc i) (omega arith) lt in
      let cnt : count t (chip_of g n x).er ≡ count t (taken g.pages n (ahead g n c) i).er =
      ap (λ (y : Chip). count t y.er) ci ∙ ap (λ (y : Ahead). count t y.er)
      s.laid.ahead_is in
      let l = left i (omega (arith, lt)) in
      let few' : g.pages + 1 ≤ count t (chip_of g n x).er = omega (arith, cnt, l, room, lt) in
      let low' : suc (max_seq g n x) < 4294967295 = omega (arith, s.max_is, low, lt) in
      let page : next_page g.pages n (ahead g n (chip_of g n x)) ≡ side (suc i) =
      ap (λ (y : Chip). next_page g.pages n (ahead g n y)) ci ∙ next_side i lt
      s.chip s.laid 0 in
      let e = next_is 0 (suc i) p x page (omega (arith, s.max_is)) in
      let r = side_runs g n base shape x z p ok few' low' in
      let mx = put_max g (shape_core g shape) n x z.held (omega (arith, few')) p ok low' 0 (omega arith) in
      let q = suc (max_seq g n x) in
      let st = program (side (suc i)) (built g (seq + suc i) 0 p) in
      let r' = subst (λ (u : Store). Runs g n base x (u ∷ []) (beside (chip_of g n x) (next_page g.pages n (ahead g n (chip_of g n x))) (built_view g q 0 p)) 1
      0) (sym e) r in
      let all = runs_then g n base img ss (st ∷ []) s.chip (beside (chip_of g n x) (next_page g.pages n (ahead g n (chip_of g n x)))
      (built_view g q 0 p)) i 1 0 0 s.runs r' in
      record {
        chip = beside s.chip (next_page g.pages n (ahead g n s.chip)) (built_view g q 0 p);
        runs = runs_as g n base img (ss ++ (st ∷ [])) (beside (chip_of g n x) (next_page g.pages n (ahead g n (chip_of g n x))) (built_view g q 0 p))
            (beside s.chip (next_page g.pages n (ahead g n s.chip)) (built_view g q 0 p)) (i + 1) (suc i) (0 + 0) 0
            (ap (λ (y : Chip). beside y (next_page g.pages n (ahead g n y)) (built_view g q 0 p)) ci) (omega arith) (omega arith) all;
        laid = laid_more i lt s.chip s.laid q (number x ∙ ap (λ (y : Chip). suc (peak t y.seq)) ci);
        max_is = ap (max_seq g n) (all_append g ss (st ∷ []) img) ∙ ap (λ (u : Store). max_seq g n (apply_store g u x)) e
            ∙ mx ∙
            (let w : suc (max_seq g n x) ≡ seq + suc i = omega (arith, s.max_is) in w);
      }

  -- ---- the levels below the root
  none_sided : Sided g n base img k a 0 []
  unfolding apply_all taken
  none_sided = record {
    chip = c;
    runs = runs_none g n base img 0 0 keeps;
    laid = record { ahead_is = refl; sides = λ j b q. absurd (omega (arith, b, q)); stays = λ q l h. refl };
    max_is = omega arith;
  }

  below_sided : (i : ℕ) → i ≤ c.level → Sided g n base img k a (min i cuts) (side_stores g seq k side lists i)
  unfolding side_stores split_store side_list
  below_sided zero b = let z : 0 ≡ min 0 cuts = omega arith in subst (λ j. Sided g n base img k a j []) z none_sided
  below_sided (suc i) b = by_le (suc i) cuts (more (below_sided i (omega arith))) (stop (below_sided i (omega arith)))
    where
      Goal : Type 0
      Goal = Sided g n base img k a (min (suc i) cuts) (side_stores g seq k side lists i ++ pick (leb (length (lists (suc i))) (2 * half g (suc i))) []
          (side_store g seq side (suc i) (side_half k (half g (suc i)) (lists (suc i))) ∷ []))

      more : Sided g n base img k a (min i cuts) (side_stores g seq k side lists i) → suc i ≤ cuts → Goal
      more s q =
          let long = (cut_levels g shape n k a k_low c whole (suc i) (omega arith) b).1 q in
          let e : min i cuts ≡ i = omega (arith, q) in
          let f : suc i ≡ min (suc i) cuts = omega (arith, q) in
          let z : side_list g n c k a (suc i) ≡ side_half k (half g (suc i)) (lists (suc i)) =
          rw (le-leb (suc i) c.level b) refl in
          rw (lt-leb (length (lists (suc i))) (2 * half g (suc i)) long)
          (subst (λ j. Sided g n base img k a j (side_stores g seq k side lists i ++
          (side_store g seq side (suc i) (side_half k (half g (suc i)) (lists (suc i))) ∷ []))) f
          (subst (λ (x : List Entry). Sided g n base img k a (suc i) (side_stores g seq k side lists i ++ (side_store g seq side (suc i) x ∷ []))) z
          (side_step i (side_stores g seq k side lists i) (omega (arith, m_is, q))
          (subst (λ j. Sided g n base img k a j (side_stores g seq k side lists i)) e s))))

      stop : Sided g n base img k a (min i cuts) (side_stores g seq k side lists i) → cuts < suc i → Goal
      stop s q =
          let short : length (lists (suc i)) ≤ 2 * half g (suc i) =
          by_le (length (lists (suc i))) (2 * half g (suc i)) (λ z. z)
          (λ z. absurd (omega (arith, q, (cut_levels g shape n k a k_low c whole (suc i) (omega arith) b).0 z))) in
          let f : min i cuts ≡ min (suc i) cuts = omega (arith, q) in
          rw (le-leb (length (lists (suc i))) (2 * half g (suc i)) short, append-nil (side_stores g seq k side lists i))
          (subst (λ j. Sided g n base img k a j (side_stores g seq k side lists i)) f s)

  -- ---- the root's other half
  abbrev halves : List Store
  halves = side_stores g seq k side lists c.level ++ crown_store g seq k side (suc c.level) (lists (suc c.level))

  pub all_sided : Sided g n base img k a (cuts + bit grows) halves
  unfolding crown_store side_list
  all_sided = by_test grows grown stayed
    where
      s : Sided g n base img k a (min c.level cuts) (side_stores g seq k side lists c.level)
      s = below_sided c.level (omega arith)

      grown : grows ≡ true
          → Sided g n base img k a (cuts + bit grows)
          (side_stores g seq k side lists c.level ++ pick grows (side_store g seq side (suc c.level)
          (side_half k (2 * half g (suc c.level)) (lists (suc c.level))) ∷ []) [])
      grown e =
          let u = grow_all g shape n k a k_low c whole e in
          let x : min c.level cuts ≡ c.level = omega (arith, u.2) in
          let y : suc c.level ≡ cuts + 1 = omega (arith, u.2) in
          let z : side_list g n c k a (suc c.level) ≡ side_half k (2 * half g (suc c.level)) (lists (suc c.level)) =
          rw (lt-leb (suc c.level) c.level (omega arith)) refl in
          rw e (subst (λ j. Sided g n base img k a j (side_stores g seq k side lists c.level ++
          (side_store g seq side (suc c.level) (side_half k (2 * half g (suc c.level)) (lists (suc c.level))) ∷ []))) y
          (subst (λ (w : List Entry). Sided g n base img k a (suc c.level)
          (side_stores g seq k side lists c.level ++ (side_store g seq side (suc c.level) w ∷ []))) z
          (side_step c.level (side_stores g seq k side lists c.level) (omega (arith, m_is, u.2, ap bit e))
          (subst (λ j. Sided g n base img k a j (side_stores g seq k side lists c.level)) x s))))

      stayed : grows ≡ false
          → Sided g n base img k a (cuts + bit grows)
          (side_stores g seq k side lists c.level ++ pick grows (side_store g seq side (suc c.level)
          (side_half k (2 * half g (suc c.level)) (lists (suc c.level))) ∷ []) [])
      stayed e = let x : min c.level cuts ≡ cuts + 0 = omega (arith, cut_le) in
          rw (e, append-nil (side_stores g seq k side lists c.level)) (subst (λ j. Sided g n base img k a j
          (side_stores g seq k side lists c.level)) x s)

  -- ---- N
  abbrev height : ℕ
  height = crown_height g (suc c.level) (lists (suc c.level))

  module _ (d : Chip) (laid : Laid g n c k a (cuts + bit grows) d) (q : ℕ) (number_is_lem : q ≡ suc (peak t d.seq))
      (most_is : peak t d.seq ≡ peak t c.seq + (cuts + bit grows)) where
    abbrev i : ℕ
    i = cuts + bit grows

    abbrev P : ℕ
    P = next_page g.pages n (ahead g n d)

    abbrev e' : Chip
    e' = rooted d P (built_view g q height (main_list g n c k a))

    pub page_is : P ≡ N
    page_is = ap (next_page g.pages n) laid.ahead_is ∙ sym (ap side m_is)

    er_is : after P d.er ≡ (taken g.pages n (ahead g n c) m).er
    unfolding taken
    er_is = ap (λ (x : Ahead). after (next_page g.pages n x) x.er) laid.ahead_is
        ∙ sym (ap (λ j. (taken g.pages n (ahead g n c) j).er) m_is)

    at_n : (j : ℕ) → 1 ≤ j → j ≤ g.top → e'.nodes N j ≡ main_list g n c k a j
    unfolding rooted
    at_n j b h = rw (eq-eqb N P (sym page_is), in_table_lem g j b h) refl

    elsewhere : (p j : ℕ) → (p ≡ N → ⊥) → e'.nodes p j ≡ d.nodes p j
    unfolding rooted
    elsewhere p j h = rw (ne_eqb p P (λ z. h (z ∙ page_is))) refl

    at_side : (j : ℕ) → 1 ≤ j → j < m → e'.nodes (side j) j ≡ side_list g n c k a j
    at_side j b h = elsewhere (side j) j (λ z. let w =
        side_inj g (shape_core g shape) n c whole.r2 m free j m b (omega (arith, h)) (omega (arith, m_is))
        (omega arith) z in omega (arith, w, h)) ∙ laid.sides j b (omega (arith, h, m_is))

    stays : (p l : ℕ) → fit_of t c.er (suc l) p → e'.nodes p (suc l) ≡ c.nodes p (suc l)
    stays p l h = elsewhere p (suc l) (λ z. new_side g (shape_core g shape) n c whole.r2 m free m l (omega (arith, m_is)) (omega arith)
        (subst (fit_of t c.er (suc l)) z h)) ∙ laid.stays p l h

    final_is : e' ≡ record {
      er = (taken g.pages n (ahead g n c) m).er;
      seq = e'.seq;
      nodes = e'.nodes;
      level = height - 1;
      root = N;
    }
    unfolding rooted
    final_is = λ i. record { er = er_is i; seq = e'.seq; nodes = e'.nodes; level = height - 1; root = page_is i }

    -- the chip before N
    d_left : count t d.er + i ≡ count t c.er
    d_left = ap (λ (x : Ahead). count t x.er + i) laid.ahead_is ∙ left i (omega (arith, m_is))

    d_r2 : R2 g.pages n d.er
    d_r2 = subst (λ (x : Ahead). R2 g.pages n x.er) (sym laid.ahead_is)
        (step g.pages n (ahead g n c) (some_page g (shape_core g shape)) whole.r2 i (omega (arith, m_is, free))).r2

    pub final_done : Whole g n e' × (map_of e' ≡ put k a (map_of c)) × R8 g n e' × Inserted g n c m k a e'
    final_done =
        let w = insert_done g shape n k a k_low c whole free e'.nodes e'.seq at_n at_side stays high not-high in
        let p = some_page g (shape_core g shape) in (
          subst (Whole g n) (sym final_is) w.0,
          ap map_of final_is ∙ w.1,
          subst (R8 g n) (sym final_is) (omega (arith, w.2, space)),
          record {
            fuller = subst (Fuller g m c) (sym final_is) w.3;
            stands = record {
              root_is = ap (λ (x : Chip). x.root) final_is;
              level_is = ap (λ (x : Chip). x.level) final_is;
              topped = topped g shape n c d i m (built_view g q height (main_list g n c k a)) d_r2 (omega (arith, d_left, room, p, m_is)) number_is_lem most_is d_left
                  m_is;
            };
          },
        )

  -- they are m programs and no erase
  pub own_programs : programs (own_stores g n seq c m k a) ≡ m
  unfolding own_stores programs
  own_programs =
      let s = all_sided in
      let A = side_stores g seq k side lists c.level in
      let B = crown_store g seq k side (suc c.level) (lists (suc c.level)) in
      let C : List Store = program N (built g (seq + m) height (main_list g n c k a)) ∷ [] in
      let x = programs_append A B in
      let y = programs_append A (B ++ C) in
      let z = programs_append B C in
      omega (arith, x, y, z, s.max_is, s.runs.grows, s.runs.programmed, m_is)
