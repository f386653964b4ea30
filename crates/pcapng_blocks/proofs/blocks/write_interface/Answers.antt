use Rattle.std.proofs.Common.{◌∙◌}
use Rattle.ports.proofs.Writing.{writes_as, writes_failed, writes_front, writes_then}
use Rattle.pcapng_blocks.specs.Bytes.{four_bytes, option_bytes}
use Rattle.pcapng_blocks.specs.Texts.{said_interface}
use Rattle.pcapng_blocks.proofs.Written.{interface_as, resolution_and_end}
use Rattle.pcapng_blocks.proofs.blocks.write_interface.Goals as goal

pub returns-in_err-write_whole : goal.returns-in_err-write_whole
returns-in_err-write_whole g c =
    let n = c.interface_size-size.result in
    let i = said_interface c.args.interface.now in
    writes_failed c.from_residual.ensures.0 (writes_as (interface_as i n c.interface_size-size.ensures)
    (writes_front (four_bytes n) (writes_front resolution_and_end (writes_front (option_bytes 3 i.description) (writes_front (option_bytes 2 i.name)
    (writes_as (c.as_slice.ensures.value ∙ c.interface_head.ensures) c.in_err-write_whole.ensures))))))

pub returns-in_err-write_option : goal.returns-in_err-write_option
returns-in_err-write_option g c =
    let n = c.interface_size-size.result in
    let i = said_interface c.args.interface.now in
    writes_failed c.from_residual-in_err-write_option.ensures.0 (writes_as (interface_as i n c.interface_size-size.ensures)
    (writes_front (four_bytes n) (writes_front resolution_and_end (writes_front (option_bytes 3 i.description)
    (writes_then (writes_as (c.as_slice.ensures.value ∙ c.interface_head.ensures) c.in_ok-write_whole.ensures) c.in_err-write_option.ensures)))))

pub returns-in_err-write_option-2 : goal.returns-in_err-write_option-2
returns-in_err-write_option-2 g c =
    let n = c.interface_size-size.result in
    let i = said_interface c.args.interface.now in
    writes_failed c.from_residual-in_err-write_option-2.ensures.0 (writes_as (interface_as i n c.interface_size-size.ensures)
    (writes_front (four_bytes n) (writes_front resolution_and_end
    (writes_then (writes_then (writes_as (c.as_slice.ensures.value ∙ c.interface_head.ensures) c.in_ok-write_whole.ensures) c.in_ok-write_option.ensures) c.in_err-write_option-2.ensures))))

pub returns-in_err-write_whole-2 : goal.returns-in_err-write_whole-2
returns-in_err-write_whole-2 g c =
    let n = c.interface_size-size.result in
    let i = said_interface c.args.interface.now in
    writes_failed c.from_residual-in_err-write_whole-2.ensures.0 (writes_as (interface_as i n c.interface_size-size.ensures)
    (writes_front (four_bytes n)
    (writes_then (writes_then (writes_then (writes_as (c.as_slice.ensures.value ∙ c.interface_head.ensures) c.in_ok-write_whole.ensures) c.in_ok-write_option.ensures) c.in_ok-write_option-2.ensures) c.in_err-write_whole-2.ensures)))

pub returns : goal.returns
returns g c =
    let n = c.interface_size-size.result in
    let i = said_interface c.args.interface.now in
    writes_as (interface_as i n c.interface_size-size.ensures)
    (writes_then (writes_then (writes_then (writes_then (writes_as (c.as_slice.ensures.value ∙ c.interface_head.ensures) c.in_ok-write_whole.ensures) c.in_ok-write_option.ensures) c.in_ok-write_option-2.ensures) c.in_ok-write_whole-2.ensures) c.write_size.ensures)
