-- What is said of what stands in front of data and types. The first of each two definitions holds of any bytes, the second of those that are a datum or a type.
use Rattle.std.specs.Prelude.{◌≡◌, ℕ, ◌+◌, ◌≤◌, true, List, length, Some, None, Option}
use Rattle.query.specs.Data.{Name, Data, bag, rec, left, right, Datas, Fields, how_many}
use Rattle.query.specs.Query.{Ty, Tys}
use Rattle.query.specs.Types.{is_of}
use Rattle.query.specs.Size.{size_d}
use Rattle.format.specs.Coding.{name}
use Rattle.format.specs.Wire.{types, names_ty, write_names, write_ty, write_data, FitsTy}
use Rattle.format.specs.Nodes.{Stands}
use Rattle.values.specs.Memory.{Used, Holds}
use Rattle.values.specs.declared.value.Value.{Value}
use Rattle.loading.specs.declared.loaded.Part.{Part}
use Rattle.loading.specs.declared.loaded.Part.TheVariants.{Plain, Bag, Record, Either}
use Rattle.loading.specs.declared.loaded.Side.{Side}
use Rattle.loading.specs.declared.loaded.Side.TheVariants.{Left, Right}
use Rattle.loading.specs.declared.loaded.Names.{Names}

abbrev pub PartInside : ℕ → ℕ → Part → Type 0
PartInside len at (Plain v n) = at + n ≤ len
PartInside len at (Bag k) = at + 5 ≤ len
PartInside len at Record = at + 1 ≤ len
PartInside len at (Either s) = at + 1 ≤ len

abbrev pub FrontInside : ℕ → ℕ → Option Part → Type 0
FrontInside len at (Some p) = PartInside len at p
FrontInside len at None = Unit {0}

-- a datum without parts: its value needs no memory, and its type is one byte
pub record PlainDatum (bs : List ℕ) (d : Data) (v : Value) (n : ℕ) : Type 0 where
  pub holds : (m : List ℕ) (u : Used) → Holds bs m u d v
  pub long : n ≡ length (write_data d)
  pub typed : (t : Ty) → is_of d t ≡ true → length (write_ty t) ≡ 1
  pub some : 1 ≤ size_d d

abbrev pub Tells : List ℕ → Part → Data → Type 0
Tells bs (Plain v n) d = PlainDatum bs d v n
Tells bs (Bag k) d = (ds : Datas) × (d ≡ bag ds) × (how_many ds ≡ k)
Tells bs Record d = (fs : Fields) × (d ≡ rec fs)
Tells bs (Either Left) d = (e : Data) × (d ≡ left e)
Tells bs (Either Right) d = (e : Data) × (d ≡ right e)

abbrev pub TellsFront : List ℕ → Option Part → Data → Type 0
TellsFront bs (Some p) d = Tells bs p d
TellsFront bs None d = ⊥

-- a record's type, by its names
abbrev pub NamesInside : ℕ → ℕ → Option Names → Type 0
NamesInside len ty (Some h) = (5 ≤ h.length) × (ty + h.length ≤ len)
NamesInside len ty None = Unit {0}

abbrev pub TellsNames : Option Names → Tys → Type 0
TellsNames (Some h) ts = (h.count ≡ length (names_ty ts)) × (h.length ≡ 1 + length (write_names (names_ty ts)))
TellsNames None ts = ⊥

-- a name, by how many bytes it has
abbrev pub NameInside : ℕ → ℕ → Option ℕ → Type 0
NameInside len at (Some n) = at + (4 + n) ≤ len
NameInside len at None = Unit {0}

abbrev pub Named : Option ℕ → Name → Type 0
Named (Some n) t = n ≡ length t
Named None t = ⊥

pub record TellsName (bs : List ℕ) (at : ℕ) (r : Option ℕ) : Type 0 where
  pub tells : (t : Name) → Stands name bs at t → name.Fits t → Named r t

-- how many bytes of types stand before a side's own
abbrev pub Before : List ℕ → ℕ → Side → ℕ → Type 0
Before bs at Left k = k ≡ 0
Before bs at Right k = (t : Ty) → Stands types bs at t → FitsTy t → k ≡ length (write_ty t)
