use Rattle.std.proofs.Common.{refl}
use Rattle.std.proofs.Math.ListN.{length-replicate}
use Rattle.geometry.specs.declared.Entry.{Entry}
use Rattle.text_reader.specs.Reader.{no_pair}
use Rattle.call_import.specs.Whole.{import_is}
use Rattle.call_import.proofs.import_text.Goals as goal

pub returns : goal.returns
returns c = import_is c.args.g c.args.img.now c.args.text.now 4096 refl _ _ c.read_pairs-t.result c.turns-n.result
    (length-replicate {A = Entry} 4096 no_pair) c.read_pairs-t.ensures c.turns-n.ensures.0 _ _ c.begin-s.ensures c.store_pairs.ensures
