use Rattle.typed.proofs.Asking.{counted}
use Rattle.typed.proofs.whole.query_type.Goals as goal

pub type_in-asked-requires : goal.type_in-asked-requires
type_in-asked-requires c =
    let b = c.begin-table.ensures in
    record {
      gathered = c.request_names.ensures;
      names = counted c.args.bytes.now c.request_names.new.names _ _ b.names c.len.ensures;
      entries = b.entries;
      fields = b.fields;
      fit = c.requires.roomy.roomy.work;
      schema = c.requires.roomy.schema;
    }

pub returns : goal.returns
returns c =
    let t = c.type_in-asked.new.table in
    let e = c.type_in-asked.ensures in
    record {
      roomy = record { roomy = record { places = rw e.names c.request_names.ensures.listed.cap; entries = t.types_fit; fields = t.fields_fit; work = e.fit }; schema = e.schema };
      sound = t.sound;
      told = record { tells = rw e.names e.told };
    }
