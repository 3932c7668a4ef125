-- A request that has passed, with what was loaded for it, is ready to be worked out; and what an outcome then tells.
use Rattle.std.proofs.Common.{◌≡◌, ℕ, ◌+◌, ◌*◌, ◌≤◌, true, List, [], ◌∷◌, ◌++◌, length, drop, Ok, Err, Result, sym, refl, ap, ◌∙◌, arith}
use Rattle.query.specs.Data.{unit, same_text}
use Rattle.query.specs.Query.{a_unit, asked}
use Rattle.query.specs.Types.{Schema, sound, is_of, code}
use Rattle.query.specs.Size.{size_s}
use Rattle.query.proofs.Comes.{comes}
use Rattle.format.specs.Wire.{write_query}
use Rattle.format.specs.declared.node.Ask.{Ask}
use Rattle.guide.proofs.Sizes.{query_bytes}
use Rattle.values.specs.Memory.{Used, Holds}
use Rattle.values.specs.Height.{height_ty}
use Rattle.values.specs.declared.value.Value.TheVariants.{Nothing}
use Rattle.bounds.specs.Names.{named, schema_names, query_names, schema_height}
use Rattle.bounds.proofs.TypeHeights.{flat_type}
use Rattle.bounds.proofs.Widths.{few_names}
use Rattle.literals.specs.Literals.{Literals}
use Rattle.operators.specs.Means.{Comes}
use Rattle.operators.specs.Ready.{Fine}
use Rattle.operators.specs.declared.came.Stop.{Stop}
use Rattle.operators.specs.declared.came.Stop.TheVariants.{Tired, NoRoom, Wrong}
use Rattle.eval.specs.Ready.{Setting, setting, World, Stands, Typed, Held, Ready}
use Rattle.eval.specs.declared.scene.Scene.{Scene}
use Rattle.asking.specs.Passed.{Passed, LoadedUp}
use Rattle.asking.specs.Outcomes.{OutOf}
use Rattle.asking.specs.Asked.{Told}
use Rattle.asking.specs.declared.outcome.Outcome.{Outcome}
use Rattle.asking.proofs.Bound.{enough}

-- a schema's types nest no deeper than it has parts
flat_schema : (ss : Schema) → schema_height ss ≤ size_s ss
unfolding schema_height size_s
flat_schema [] = omega arith
flat_schema (t ∷ ss) = omega (arith, flat_type t, flat_schema ss)

fine_unit : (ns : List (List ℕ)) (k : ℕ) → Fine ns k a_unit
unfolding sound named height_ty
fine_unit ns k = record { in_order = refl; within = refl; shallow = omega arith }

pub unit_is : is_of unit a_unit ≡ true
unfolding is_of same_text code
unit_is = refl

pub unit_held : (bs m : List ℕ) (u : Used) → Holds bs m u unit Nothing
unfolding Holds
unit_held bs m u = refl

abbrev pub scene_of : Ask → Literals → Scene
scene_of a l = record { query_at = a.query_at; tables = 0; count = a.tables; literals = l.start; deep = 24576 }

module _ (xs g : List ℕ) (a : Ask) (p : Passed xs g a) where
  abbrev pub world_of : (marks m : List ℕ) (l : Literals) → LoadedUp xs p.tables p.query a.tables marks m l → World
  world_of marks m l u =
      let ns = schema_names p.schema ++ query_names p.query in
      record {
        schema = p.schema;
        tables = p.tables;
        literals = u.datas;
        names = ns;
        rate = 5 * length ns + 3;
        in_order = p.sound;
        are = p.are;
        called = (few_names p.schema p.query).1;
        dear = omega arith;
      }

  bytes_few : length (write_query p.query) ≤ 73728
  bytes_few = omega (arith, query_bytes p.query, p.small)

  module _ (marks m qs : List ℕ) (l : Literals) (u : LoadedUp xs p.tables p.query a.tables marks m l) (q : drop a.query_at xs ≡ qs) (long : 73728 ≤ length marks) where
    abbrev pub S : Setting
    S = setting (scene_of a l) xs g marks

    pub stands_of : Stands S u.datas qs 0 p.query
    stands_of = record {
      rest = p.query_at.stands.rest;
      fits = p.query_at.fits;
      is = sym q ∙ p.query_at.stands.is;
      spot = ap (λ k. drop k xs) (let e : a.query_at + 0 ≡ a.query_at = omega arith in e) ∙ q;
      guided = p.guided;
      guide_long = omega (arith, bytes_few, p.guide_long);
      marks_long = omega (arith, bytes_few);
      numbered = u.numbered;
    }

    pub typed_of : Typed (world_of marks m l u) 24576 p.query a_unit a_unit p.type
    typed_of = record {
      type = p.typed;
      called = (few_names p.schema p.query).2;
      high = 8192;
      schema_low = omega (arith, flat_schema p.schema, p.small);
      fine_env = fine_unit _ 8192;
      fine_it = fine_unit _ 8192;
      low = omega (arith, p.small);
    }

    pub held_of : Held S (world_of marks m l u) unit Nothing m u.used l.top
    held_of = record { tables = u.tables; literals = u.literals; goes = unit_held xs m u.used; low = u.low; room = u.within }

    abbrev pub ready_of : Ready S qs 0 Nothing Nothing m l.top
    ready_of = record {
      world = world_of marks m l u;
      query = p.query;
      stands = stands_of;
      te = a_unit;
      ti = a_unit;
      tu = p.type;
      typed = typed_of;
      along = unit;
      looked = unit;
      is_along = unit_is;
      is_looked = unit_is;
      used = u.used;
      held = held_of;
      looks = unit_held xs m u.used;
    }

    -- a query with a type comes to something
    it_comes : Comes (asked p.tables p.query)
    it_comes e =
        let c = comes p.schema p.tables p.are p.query a_unit a_unit p.type [] unit unit unit_is unit_is p.typed in
        let z : ◌≡◌ {A = ℕ} 0 1 = (let y : c.0 ∷ [] ≡ [] = sym c.1 ∙ e in cc) in
        omega arith

    pub told_of : (w : ℕ) (r : Result Outcome Stop) → OutOf ready_of.world.rate (asked p.tables p.query) w l.top (length m) r → Told p.schema p.tables p.query w (length m) r
    told_of w (Ok r) o = o
    told_of w (Err Tired) o = o it_comes
    told_of w (Err NoRoom) o =
        enough p.schema p.tables p.query w ready_of.world.rate (length (schema_names p.schema ++ query_names p.query)) l.top (length m) refl (few_names p.schema p.query).0 u.thrifty (o it_comes)
    told_of w (Err Wrong) o = absurd (it_comes o)
