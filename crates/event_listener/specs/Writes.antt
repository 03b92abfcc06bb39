-- What the nodes end as, where one is written.
use Rattle.std.specs.Prelude.{ℕ, Bool}
use Rattle.std.specs.Borrow.{Lends, Fml, RattleType, MutBor}
use Rattle.slab.specs.Slab.{with_value}
use Rattle.event_listener.specs.declared.node.Node.{Node}
use Rattle.event_listener.specs.declared.node.Nodes.{Nodes}
use Rattle.event_listener.specs.contracts.node.Node.{the_row as node_row}
use Rattle.event_listener.specs.contracts.node.Nodes.{the_row}
use Rattle.event_listener.specs.Nodes.{more, more_if}

module _ (T W : RattleType) (nodes : MutBor (Nodes T.Denot W.Denot)) (at : ℕ) (counted : Bool) where
  -- the nodes after one more look, which may be a visit, with this node in the place
  abbrev pub written : Node T.Denot W.Denot → Nodes T.Denot W.Denot
  written node =
      record {
        last = more_if counted nodes.now.last;
        slab = with_value nodes.now.slab at node;
        looks = more nodes.now.looks;
      }

  -- once the write ends, the place has the node that it left
  abbrev pub lends_node : MutBor (Node T.Denot W.Denot) → Fml
  lends_node r = Lends (the_row T W) (node_row T W) nodes r written
