-- Records that fill their structure lie whole in it. Assumes nothing.
use Rattle.std.specs.Prelude.{ℕ, ◌+◌, ◌-◌, ◌/◌, ◌%◌, ◌≤◌, List, ◌≡◌}
use Rattle.std.proofs.Common.{arith}
use Rattle.board_layout.specs.Layout.{length_at, end_at, data_offset, record_size, records}
use Rattle.board_layout.specs.Places.{MapData, map_record_size, GpioData, gpio_record_size}
use Rattle.board_layout.specs.declared.Records.{Records}
use Rattle.board_layout.specs.declared.Records.TheVariants.{Map, Gpio}
use Rattle.chain.specs.All.{All}
use Rattle.chain.proofs.laws.Steps.{steps-fit}

-- "whole records": what follows the fields is some number of them
pub records-fit : (which : Records) (s : List ℕ) (p : ℕ) → data_offset which ≤ length_at s p → (length_at s p - data_offset which) % record_size which ≡ 0
    → All (λ r. (p + data_offset which ≤ r) × (r + record_size which ≤ end_at s p)) (records which s p)
unfolding records end_at
records-fit Map s p h w =
    steps-fit map_record_size (omega arith) ((length_at s p - MapData) / map_record_size) (p + MapData) (end_at s p) (omega arith)
records-fit Gpio s p h w =
    steps-fit gpio_record_size (omega arith) ((length_at s p - GpioData) / gpio_record_size) (p + GpioData) (end_at s p) (omega arith)
