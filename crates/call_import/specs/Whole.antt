-- What the reader, `begin` and the inserter leave one after the other is the import. Assumes nothing.
use Rattle.std.specs.Prelude.{ℕ, suc, min, Bool, true, false, ◌≡◌, refl, List, eqb, ltb, length, take}
use Rattle.std.proofs.Common.{sym, ap, ◌∙◌, arith}
use Rattle.geometry.specs.declared.Geometry.{Geometry}
use Rattle.geometry.specs.declared.Entry.{Entry}
use Rattle.geometry.specs.Tests.{pick}
use Rattle.model.specs.Calls.{Outcome, gives, format}
use Rattle.text_carrying.specs.Carrying.{records, bad, most_records, read_text, store_all, import_read}
use Rattle.text_carrying.specs.Back.{refused_stays}
use Rattle.text_reader.specs.declared.Spot.{Spot}
use Rattle.text_reader.specs.Reader.{start, spot_after, pairs_of, filled}
use Rattle.text_reader.specs.Turns.{read_as, read_turns, count_most, pairs_length, overlay_all}
use Rattle.call_import.specs.Importer.{begun}

-- the inserts after what the reader says
begun_stored : (g : Geometry) (img text : List ℕ) (t : Spot) (es : List Entry)
    → store_all g (begun g img t (length text)) es ≡ import_read g img (read_as text t es)
unfolding begun read_as import_read
begun_stored g img text t es = go (eqb t.bad 0) (ltb t.at (length text))
  where
    go : (x y : Bool)
        → store_all g (pick x (pick y (gives 9 (suc most_records) 0 0 img) (format g img)) (gives 9 t.bad 0 0 img)) es
        ≡ import_read g img (pick x (pick y (bad (suc most_records)) (records es)) (bad t.bad))
    go true true = refused_stays g (gives 9 (suc most_records) 0 0 img) es (λ z. omega (arith, z))
    go true false = refl
    go false y = refused_stays g (gives 9 t.bad 0 0 img) es (λ z. omega (arith, z))

module _ (g : Geometry) (img text : List ℕ) (all : ℕ) (is_all : all ≡ most_records) (ys zs : List Entry)
    (t : Spot) (n : ℕ) (long : length ys ≡ all)
    (reads : (t, zs) ≡ filled text all start ys) (en : n ≡ min t.count all) where
  t_is : t ≡ spot_after text all start
  t_is = λ i. (reads i).0

  zs_is : zs ≡ pairs_of text all start
  zs_is = (λ i. (reads i).1) ∙ overlay_all (pairs_of text all start) ys (pairs_length text all start ∙ sym long)

  n_is : n ≡ t.count
  n_is = let h = count_most text all start in let q = ap (λ (x : Spot). x.count) t_is in omega (arith, en, h, q)

  pub import_is : (s o : Outcome) → s ≡ begun g img t (length text) → o ≡ store_all g s (take n zs)
      → o ≡ import_read g img (read_text text)
  import_is s o b e =
      e ∙ ap (λ (x : Outcome). store_all g x (take n zs)) b ∙ begun_stored g img text t (take n zs)
      ∙ ap (import_read g img) ((λ i. read_as text (t_is i) (take ((n_is ∙ ap (λ (x : Spot). x.count) t_is) i) (zs_is i))) ∙ sym (read_turns text all is_all))
