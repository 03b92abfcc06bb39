-- What a pool of workers makes of its jobs.
use Rattle.std.specs.Prelude.{ℕ, ◌*◌, List, map}

abbrev pub squares : List ℕ → List ℕ
squares jobs = map (λ job. job * job) jobs
