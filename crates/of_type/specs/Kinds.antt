-- Kinds: what data and types are by their heads.
use Rattle.format.specs.declared.node.DataNode.{DataNode}
use Rattle.format.specs.declared.node.DataNode.TheVariants as dn
use Rattle.format.specs.declared.node.TypeNode.{TypeNode}
use Rattle.format.specs.declared.node.TypeNode.TheVariants as tn
use Rattle.of_type.specs.declared.Kind.{Kind}
use Rattle.of_type.specs.declared.Kind.TheVariants.{Nothing, Number, Truth, Text, Bag, Record, Either}

abbrev pub kind_of_node : DataNode → Kind
kind_of_node dn.Nothing = Nothing
kind_of_node (dn.Number n) = Number
kind_of_node (dn.Truth b) = Truth
kind_of_node (dn.Text n) = Text
kind_of_node (dn.Bag k) = Bag
kind_of_node (dn.Record k) = Record
kind_of_node dn.Left = Either
kind_of_node dn.Right = Either

abbrev pub kind_of_type : TypeNode → Kind
kind_of_type tn.Nothing = Nothing
kind_of_type tn.Number = Number
kind_of_type tn.Truth = Truth
kind_of_type tn.Text = Text
kind_of_type tn.Bag = Bag
kind_of_type (tn.Record k) = Record
kind_of_type tn.Either = Either
