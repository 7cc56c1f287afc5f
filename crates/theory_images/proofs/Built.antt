-- A page that is built reads back as it was built: its number, its height, its nodes. Assumes nothing.
use Rattle.std.specs.Prelude.{◌≡◌, Bool, ◌⊎◌, set, replicate}
use Rattle.std.proofs.Math.Path.{refl}
use Rattle.std.proofs.Common.{◌∙◌, inl, inr}
use mathlib.Core.List.{List, []}
use Rattle.std.proofs.Math.Bool.{true, false}
use Prim.Native.Nat.{ℕ, zero, suc, ◌+◌, ◌-◌, ◌*◌, ◌%◌, ◌<◌, ◌≤◌, min}
use native.Mathlib.Omega.{arith}
use Rattle.std.proofs.Math.Nat.{zero-add, mod-eq_of_lt}
use Rattle.std.proofs.Math.ListN.{length, get_or-replicate}
use Rattle.std.proofs.Math.Seq.{get_or-set_same, get_or-set_other}
use Rattle.geometry.specs.declared.Geometry.{Geometry}
use Rattle.geometry.specs.declared.Entry.{Entry}
use Rattle.geometry.specs.Tests.{pick, and_both}
use Rattle.geometry.specs.Geometry.{page_bytes, halves, code_place, slots, first_slot, root_slots, in_table}
use Rattle.geometry.specs.Shape.{Core}
use Rattle.model.specs.Bytes.{byte_at, u32_at, blank, entries_at}
use Rattle.model.specs.Codes.{codes_fit}
use Rattle.model.specs.Page.{put_u32, put_entries, put_level, put_levels, numbered, sealed, built}
use Rattle.theory_counts.specs.Cases.{by_eq}
use Rattle.theory_images.specs.Bytes.{copy_entries, blank_all, Off, length_word, word_off, length_entries, entries_off, entries_same}
use Rattle.theory_images.specs.Codes.{coded_fits}
use Rattle.theory_images.specs.Page.{table_in_lem, node_from, tail_from, view_from}
use Rattle.theory_images.specs.Built.{Parts, built_er, built_seq, built_view, len_bare, length_laid, length_levels, length_numbered, off_nothing, sealed_byte}

module _ (g : Geometry) (core : Core g) (parts : ℕ → List Entry) where
  numbered_off : (seq h : ℕ) (b : List ℕ) (k : ℕ) → Off k g.main 5 → byte_at (numbered g b seq h) k ≡ byte_at b k
  unfolding numbered
  numbered_off seq h b k (inl q) = get_or-set_other (put_u32 b g.main seq) (g.main + 4) k (h % 256) 0 (omega arith)
      ∙ word_off b g.main seq k
      (inl q)
  numbered_off seq h b k (inr q) = get_or-set_other (put_u32 b g.main seq) (g.main + 4) k (h % 256) 0 (omega arith)
      ∙ word_off b g.main seq k
      (inr (omega arith))

  numbered_height : (seq h : ℕ) (b : List ℕ) → g.main + 5 ≤ length b → h < 256 → byte_at (numbered g b seq h)
      (g.main + 4) ≡ h
  unfolding numbered
  numbered_height seq h b q s = get_or-set_same (put_u32 b g.main seq) (g.main + 4) (h % 256) 0 (omega (arith, length_word b g.main seq))
      ∙ mod-eq_of_lt s

  sealed_off : (seq h : ℕ) (b : List ℕ) (k : ℕ) → Off k g.main 5 → (k < code_place g 0) ⊎ (code_place g (halves g) ≤ k)
      → byte_at (sealed g b seq h) k ≡ byte_at b k
  sealed_off seq h b k q o = sealed_byte g core parts seq h b k o ∙ numbered_off seq h b k q

  sealed_height : (seq h : ℕ) (b : List ℕ) → g.main + 5 ≤ length b → h < 256 → byte_at (sealed g b seq h) (g.main + 4)
      ≡ h
  sealed_height seq h b q s = sealed_byte g core parts seq h b (g.main + 4) (inl (omega arith)) ∙ numbered_height seq h b q s

  module _ (ok : Parts g parts) where
    -- beside the counts the levels' bytes are main bytes
    levels_off : (n : ℕ) (b : List ℕ) (k : ℕ) → n ≤ g.top → g.main ≤ k → ((k < g.main + 5) ⊎ (g.main + 4 + n < k))
        → byte_at (put_levels g parts n b) k ≡ byte_at b k
    unfolding put_levels put_level
    levels_off zero b k h q o = refl
    levels_off (suc n) b k h q o =
        get_or-set_other (put_entries (put_levels g parts n b) (8 * first_slot g (suc n)) (parts (suc n))) (g.main + 4 + suc n) k
        (length (parts (suc n)) % 256) 0 (apart o)
        ∙ entries_off (put_levels g parts n b) (8 * first_slot g (suc n)) (parts (suc n)) k
        (inr (let i = ok.inside (suc n) (omega arith) h in let m = core.main_is in omega (arith, i, m, q)))
        ∙ levels_off n b k (omega arith) q (less o)
      where
        apart : ((k < g.main + 5) ⊎ (g.main + 4 + suc n < k)) → k ≡ g.main + 4 + suc n → ⊥
        apart (inl i) e = omega arith
        apart (inr i) e = omega arith

        less : ((k < g.main + 5) ⊎ (g.main + 4 + suc n < k)) → (k < g.main + 5) ⊎ (g.main + 4 + n < k)
        less (inl i) = inl i
        less (inr i) = inr (omega arith)

    levels_count : (n : ℕ) (b : List ℕ) (l : ℕ) → n ≤ g.top → g.main + 4 + n < length b → 1 ≤ l → l ≤ n
        → byte_at (put_levels g parts n b) (g.main + 4 + l) ≡ length (parts l)
    unfolding put_levels put_level
    levels_count zero b l t h i k = absurd (omega arith)
    levels_count (suc n) b l t h i k = by_eq l (suc n)
        (λ e. rw e (get_or-set_same (put_entries (put_levels g parts n b) (8 * first_slot g (suc n)) (parts (suc n))) (g.main + 4 + suc n)
        (length (parts (suc n)) % 256) 0 (let x =
        length_entries (put_levels g parts n b) (8 * first_slot g (suc n)) (parts (suc n)) in let y =
        (length_levels g core parts) n b in omega (arith, x, y, h))
        ∙ mod-eq_of_lt (ok.bytes (suc n) (omega arith) t)))
        (λ e. get_or-set_other (put_entries (put_levels g parts n b) (8 * first_slot g (suc n)) (parts (suc n))) (g.main + 4 + suc n) (g.main + 4 + l)
        (length (parts (suc n)) % 256) 0 (omega arith)
        ∙ entries_off (put_levels g parts n b) (8 * first_slot g (suc n)) (parts (suc n)) (g.main + 4 + l)
        (inr (let z = ok.inside (suc n) (omega arith) t in let m = core.main_is in omega (arith, z, m)))
        ∙ levels_count n b l (omega arith) (omega arith) i (omega arith))

    levels_same : (n : ℕ) (b : List ℕ) (l : ℕ) → n ≤ g.top → g.main ≤ length b → 1 ≤ l → l ≤ n
        → entries_at (put_levels g parts n b) (8 * first_slot g l) (length (parts l)) ≡ parts l
    unfolding put_levels put_level
    levels_same zero b l h len i k = absurd (omega arith)
    levels_same (suc n) b l h len i k = by_eq l (suc n)
        (λ e. rw e (copy_entries put₁ (8 * first_slot g (suc n)) (set put₁ (g.main + 4 + suc n) (length (parts (suc n)) % 256))
        (8 * first_slot g (suc n)) (8 * length (parts (suc n)))
        (λ o q. get_or-set_other put₁ (g.main + 4 + suc n) (8 * first_slot g (suc n) + o) (length (parts (suc n)) % 256) 0
        (λ z. omega (arith, z, q, w, m)))
        (length (parts (suc n))) 0 (8 * first_slot g (suc n)) (8 * first_slot g (suc n)) (omega arith) (omega arith) (omega arith)
        ∙ entries_same old (8 * first_slot g (suc n)) (parts (suc n)) (omega (arith, w, m, len, length_levels g core parts n b))
        (ok.fits (suc n) (omega arith) h)))
        (λ e. copy_entries old (8 * first_slot g l) (set put₁ (g.main + 4 + suc n) (length (parts (suc n)) % 256)) (8 * first_slot g l)
        (8 * length (parts l))
        (λ o q. get_or-set_other put₁ (g.main + 4 + suc n) (8 * first_slot g l + o) (length (parts (suc n)) % 256) 0
        (λ z. let v = ok.inside l i (omega (arith, k, h)) in omega (arith, z, q, v, m))
        ∙ entries_off old (8 * first_slot g (suc n)) (parts (suc n)) (8 * first_slot g l + o) (away o q (ok.apart l (suc n) i (omega arith) h)))
        (length (parts l)) 0 (8 * first_slot g l) (8 * first_slot g l) (omega arith) (omega arith) (omega arith)
        ∙ levels_same n b l (omega arith) len i (omega arith))
      where
        old : List ℕ
        old = put_levels g parts n b

        put₁ : List ℕ
        put₁ = put_entries (put_levels g parts n b) (8 * first_slot g (suc n)) (parts (suc n))

        m : g.main ≡ 8 * slots g
        m = core.main_is

        w : first_slot g (suc n) + length (parts (suc n)) ≤ slots g
        w = ok.inside (suc n) (omega arith) h

        away : (o : ℕ) → o < 8 * length (parts l) → (length (parts (suc n)) ≡ 0) ⊎
            (first_slot g l + length (parts l) ≤ first_slot g (suc n))
            → Off (8 * first_slot g l + o) (8 * first_slot g (suc n)) (8 * length (parts (suc n)))
        away o q (inl z) = rw z (off_nothing (8 * first_slot g l + o) (8 * first_slot g (suc n)))
        away o q (inr z) = inl (omega arith)

    module _ (seq h : ℕ) (small : seq < 4294967295) (high : h < 256) where
      abbrev laid_levels : List ℕ
      laid_levels = put_levels g parts g.top (replicate (page_bytes g) 255)

      built_height : byte_at (built g seq h parts) (g.main + 4) ≡ h
      unfolding built
      built_height = let s = core.spare_low in sealed_height seq h laid_levels (omega (arith, length_laid g core parts ok seq h small high, s)) high

      built_count : (l : ℕ) → 1 ≤ l → l ≤ g.top → byte_at (built g seq h parts) (g.main + 4 + l) ≡ length (parts l)
      unfolding built
      built_count l i k = let s = core.spare_low in sealed_off seq h laid_levels (g.main + 4 + l) (inr (omega arith))
          (inl (omega arith)) ∙ levels_count g.top
          (replicate (page_bytes g) 255) l (omega arith) (omega (arith, len_bare g core parts ok seq h small high, s)) i k

      built_node : (l : ℕ) → 1 ≤ l → l ≤ g.top → entries_at (built g seq h parts) (8 * first_slot g l) (length (parts l))
          ≡ parts l
      unfolding built
      built_node l i k =
          let m = core.main_is in
          let w = ok.inside l i k in
          copy_entries laid_levels (8 * first_slot g l) (sealed g laid_levels seq h) (8 * first_slot g l) (8 * length (parts l))
          (λ o q. sealed_off seq h laid_levels (8 * first_slot g l + o) (inl (omega (arith, m, w, q))) (inl (omega (arith, m, w, q))))
          (length (parts l)) 0 (8 * first_slot g l) (8 * first_slot g l) (omega arith) (omega arith) (omega arith)
          ∙ levels_same g.top (replicate (page_bytes g) 255) l (omega arith) (omega (arith, len_bare g core parts ok seq h small high)) i k

      built_blank : blank (built g seq h parts) (code_place g (halves g)) (page_bytes g - code_place g (halves g)) ≡ true
      unfolding built
      built_blank =
          blank_all (sealed g laid_levels seq h) (page_bytes g - code_place g (halves g)) (code_place g (halves g)) (λ k q.
          sealed_off seq h laid_levels (code_place g (halves g) + k) (inr (omega arith)) (inr (omega arith))
          ∙ levels_off g.top (replicate (page_bytes g) 255) (code_place g (halves g) + k) (omega arith) (omega arith) (inr (omega arith))
          ∙ get_or-replicate {A = ℕ} (page_bytes g) (code_place g (halves g) + k) 255 0 (omega (arith, q)))

      built_codes : codes_fit g (built g seq h parts) 0 (halves g) ≡ true
      unfolding built sealed
      built_codes = coded_fits g (halves g) (numbered g laid_levels seq h) (omega arith)
          (let r = core.code_room in omega (arith, r, length_numbered g core parts seq h laid_levels, length_laid g core parts ok seq h small high))

      built_tail : tail_from g (built g seq h parts) 0 ≡ true
      unfolding tail_from
      built_tail = and_both _ _ (rw zero-add built_blank) built_codes

      built_read : (l : ℕ) → node_from g (built g seq h parts) 0 l ≡ pick (in_table g l) (parts l) []
      unfolding node_from root_slots entries_at
      built_read l = go (in_table g l) refl
        where
          at : (1 ≤ l) × (l ≤ g.top)
              → entries_at (built g seq h parts) (0 + 8 * first_slot g l)
              (min (byte_at (built g seq h parts) (0 + g.main + 4 + l)) (suc (slots g - first_slot g l))) ≡ parts l
          at k =
              let e₀ : 0 + 8 * first_slot g l ≡ 8 * first_slot g l = omega arith in
              let e₁ : byte_at (built g seq h parts) (0 + g.main + 4 + l) ≡ length (parts l) =
              rw zero-add (built_count l k.0 k.1) in
              let w = ok.inside l k.0 k.1 in
              let e₂ : min (length (parts l)) (suc (slots g - first_slot g l)) ≡ length (parts l) = omega (arith, w) in
              rw (e₀, e₁, e₂) (built_node l k.0 k.1)

          go : (t : Bool) → in_table g l ≡ t
              → entries_at (built g seq h parts) (0 + 8 * first_slot g l)
              (pick t (min (byte_at (built g seq h parts) (0 + g.main + 4 + l)) (suc (slots g - first_slot g l))) 0) ≡ pick t (parts l) []
          go true e = at (table_in_lem g l e)
          go false e = refl

      pub view_built : view_from g (built g seq h parts) 0 ≡ built_view g seq h parts
      unfolding view_from
      view_built = λ i. record {
        er = built_er g core parts ok seq h small high i;
        seq = pick (built_er g core parts ok seq h small high i) 0 (e₂ i);
        height = pick (built_er g core parts ok seq h small high i) 0 (e₃ i);
        tail = pick (built_er g core parts ok seq h small high i) true (built_tail i);
        node = λ l. built_read l i;
      }
        where
          e₂ : u32_at (built g seq h parts) (0 + g.main) ≡ seq
          e₂ = rw zero-add (built_seq g core parts ok seq h small high)

          e₃ : byte_at (built g seq h parts) (0 + g.main + 4) ≡ h
          e₃ = rw zero-add built_height
