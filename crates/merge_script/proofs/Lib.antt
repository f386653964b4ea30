mod NotMerged
mod AllPackets
mod Adding
mod Merges
mod Noted
mod DatedMerges
mod Counted
