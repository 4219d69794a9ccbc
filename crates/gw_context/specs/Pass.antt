-- One step of the pass that ends nodes, on the way down the list.
use Rattle.std.specs.Prelude.{Bool, ◌&&◌, List, is_none, is_some, if◌then◌else◌}
use Rattle.gw_context.specs.declared.parts.Cause.{Cause}
use Rattle.gw_context.specs.declared.parts.Node.{Node}
use Rattle.gw_context.specs.Node.{node_at, ended}

-- the node is tied to one that has ended
abbrev pub hangs : List Node → Node → Bool
hangs nodes node = node.tied && is_some (node_at nodes node.parent).cause

-- the node is ended where it is live and hit
abbrev pub ended_if : Bool → Cause → Node → Node
ended_if is_hit cause node = if is_none node.cause && is_hit then ended cause node else node
