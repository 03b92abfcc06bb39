-- What the code's scene stands for.
use Rattle.channel_world.specs.Script.{ScriptScene}
use Rattle.channel_world.specs.View.{at_rest}
use Rattle.channel_world.specs.declared.script.scene.Scene.{Scene as Staged}

abbrev pub scene_of : Staged → ScriptScene
scene_of s = record { state = at_rest s.world; table = s.table }
